-- The invariant's part on updates: what rows, pending updates and the letters INV, ACK and VAL say.
use Rattle.std.specs.Prelude.{◌≡◌, ◌⊎◌, ◌≢◌, ℕ, true, List, ◌<◌, ◌≤◌, Option, Some, None, ⊤}
use Rattle.std.specs.Option.{IsSome}
use Rattle.hk_base.specs.declared.stamp.Kind.{Kind}
use Rattle.hk_base.specs.declared.stamp.Kind.TheVariants as Kind
use Rattle.hk_base.specs.declared.stamp.Stamp.{Stamp}
use Rattle.hk_base.specs.declared.call.Answer.{Answer}
use Rattle.hk_base.specs.declared.call.Content.{Content}
use Rattle.hk_base.specs.declared.call.State.{State}
use Rattle.hk_base.specs.declared.call.State.TheVariants as State
use Rattle.hk_base.specs.declared.letter.Body.TheVariants as Body
use Rattle.hk_base.specs.declared.letter.Letter.{Letter}
use Rattle.hk_base.specs.Stamp.{tag_of}
use Rattle.hk_key.specs.declared.row.Pending.{Pending}
use Rattle.hk_register.specs.Machine.{In, Note, WaitingUpdate, Message, Update}
use Rattle.hk_register.specs.Machine.Phase.{Valid}
use Rattle.hk_register.specs.Machine.Message.{Inv, Ack, Val, Give}
use Rattle.hk_register.specs.Machine.Item.{Answered}
use Rattle.hk_register.specs.Effects.{Has, next_stamp}
use Rattle.hk_node.specs.Node.{NodeState}
use Rattle.hk_node.specs.Rows.{row_at}
use Rattle.hk_effects.specs.Projection.{Trace, project, node_at}
use Rattle.hk_parts.specs.Moments.{Run, Moment, Sent, BegunAt}
use Rattle.hk_parts.specs.Facts.{members_at, HasCovered, WasExact, IsComplete, IsSettled, IsSettledThrough}

-- The states with a pending update, how its stamp stands to the row's, and whether it is that of a call.
abbrev pub HasShape : State → Option Pending → Stamp → Type 0
HasShape State.Valid p s = p ≡ None
HasShape State.Invalid p s = p ≡ None
HasShape State.Write None s = ⊥
HasShape State.Write (Some p) s = (tag_of p.stamp ≡ tag_of s) × IsSome p.reply
HasShape State.Replay None s = ⊥
HasShape State.Replay (Some p) s = (tag_of p.stamp ≡ tag_of s) × (p.reply ≡ None)
HasShape State.Trans None s = ⊥
HasShape State.Trans (Some p) s = (tag_of p.stamp < tag_of s) × (p.kind ≡ Kind.Write) × IsSome p.reply

module _ (key : List ℕ) (t : Trace) where
  -- Just one update that was begun has the stamp. It is above its base by the version step of its kind, and carries its
  -- coordinator's number. The base is that of no update, or settled.
  pub record IsBegun (s : ℕ) : Type 0 where
    pub update : Update
    pub begun : In t.begun update
    pub stamp : update.stamp ≡ s
    pub only : (u : Update) → In t.begun u → u.stamp ≡ s → u ≡ update
    pub next : s ≡ next_stamp update.kind update.base update.who
    pub above : update.base < s
    pub node : update.who < 65536
    pub base : (update.base ≡ 0) ⊎ IsSettled key t update.base

  -- and it has this kind and content
  pub record IsBegunAs (s : ℕ) (kind : Kind) (content : Option Content) : Type 0 where
    pub one : IsBegun s
    pub same_kind : one.update.kind ≡ kind
    pub same_content : one.update.content ≡ content

  -- the stamp of no update, or of one
  abbrev pub FromUpdate : ℕ → Type 0
  FromUpdate s = (s ≡ 0) ⊎ IsBegun s

  abbrev pub FromUpdateAs : ℕ → Kind → Option Content → Type 0
  FromUpdateAs s kind content = (s ≡ 0) ⊎ IsBegunAs s kind content

  -- the stamps of a letter, or of a copied row
  abbrev pub LetterBegun : Message → Type 0
  LetterBegun (Inv m e s kind content) = FromUpdateAs s kind content
  LetterBegun (Ack m e s top) = FromUpdate s × FromUpdate top
  LetterBegun (Val m e s) = FromUpdate s
  LetterBegun (Give m e s kind content valid) = FromUpdateAs s kind content

  pub record StampsBegun : Type 0 where
    pub row : (n : ℕ) → FromUpdateAs ((project key t).node n).stamp ((project key t).node n).kind ((project key t).node n).content
    pub pending : (n : ℕ) (p : WaitingUpdate) → Has ((project key t).node n).phase p → FromUpdateAs p.stamp p.kind p.content
    pub letter : (l : Message) → In (project key t).letters l → LetterBegun l

  -- An INV of epoch e from m tells a stamp that m covered in e. An ACK of s with top t tells that m covered s in e, and that
  -- its row had t: so with t equal to s it was exact for s. A VAL tells a settled stamp.
  abbrev pub LetterTells : Message → Type 0
  LetterTells (Inv m e s kind content) = HasCovered key t m e s
  LetterTells (Ack m e s top) = HasCovered key t m e s × WasExact key t m e top
  LetterTells (Val m e s) = IsSettled key t s
  LetterTells (Give m e s kind content valid) = ⊤

  -- The note is of another member of the view, which covered the stamp in this epoch. An exact one is of a member whose row had
  -- it.
  pub record NoteTells (n e s : ℕ) (k : Note) : Type 0 where
    pub member : In (members_at t e) k.who
    pub other : k.who ≢ n
    pub covered : HasCovered key t k.who e s
    pub exact : k.exact ≡ true → WasExact key t k.who e s

-- the ACK was sent when its sender's row had the top
pub record AckSent (key : List ℕ) (run : Run) (l : Letter) (top : Stamp) : Type 0 where
  pub sent : Sent key run l
  pub row : tag_of top ≡ tag_of (row_at key sent.node.rows).stamp

-- At the moment t of a run, of one key.
pub record UpdatePart (key : List ℕ) (run : Run) (t : Trace) : Type 0 where
  -- 1. Each stamp other than 0.0 of a row, a pending update, a letter or a copied row is that of just one update that was begun,
  -- with its kind and content. The update was begun at a Valid row, whose stamp is its base.
  pub origin : StampsBegun key t
  pub begun : (u : Update) → In t.begun u → BegunAt key run u
  -- 2. A row's stamp never falls, and is at least every stamp that its node covered.
  pub rows_rise : (past : Trace) → Moment key run past → (n : ℕ) → ((project key past).node n).stamp ≤ ((project key t).node n).stamp
  pub rows_cover : (n e s : ℕ) → HasCovered key t n e s → s ≤ ((project key t).node n).stamp
  -- 3. Valid and Invalid have no pending update. In Write and Replay its stamp is the row's. In Trans it is a plain write below the
  -- row. It is of a call in Write and Trans, and of none in Replay.
  pub shape : (n : ℕ) (x : NodeState) → node_at n t.world.processes ≡ Some x → HasShape (row_at key x.rows).state (row_at key x.rows).pending (row_at key x.rows).stamp
  -- 4. Letters tell what was so. An ACK's top was the row's stamp when it was sent.
  pub letters_tell : (l : Message) → In (project key t).letters l → LetterTells key t l
  pub acks_tell : (l : Letter) → In t.world.letters l → (s top : Stamp) → l.body ≡ Body.Ack key s top → AckSent key run l top
  -- 5. Notes tell what was so.
  pub notes_tell : (n : ℕ) (p : WaitingUpdate) → Has ((project key t).node n).phase p → (k : Note) → In p.notes k → NoteTells key t n ((project key t).node n).epoch p.stamp k
  -- 6. A Valid row's stamp is 0.0 or settled. Where a VAL was kept, the row's stamp is settled.
  pub valid_is_settled : (n : ℕ) → ((project key t).node n).phase ≡ Valid → (((project key t).node n).stamp ≡ 0) ⊎ IsSettled key t ((project key t).node n).stamp
  pub kept_is_settled : (n : ℕ) → ((project key t).node n).kept_val ≡ true → IsSettled key t ((project key t).node n).stamp
  -- 7. Where a stamp is settled through an epoch, each update above it that any node covered in an epoch not lower has a base that is
  -- not below it.
  pub bases : (u : Update) → In t.begun u → (s e n f : ℕ) → IsSettledThrough key t s e → HasCovered key t n f u.stamp → e ≤ f → s < u.stamp → s ≤ u.base
  -- 8. The stamp of each answered update is complete.
  pub answered_is_complete : (call s : ℕ) (a : Answer) → In t.history (Answered call s a) → IsComplete key t s
