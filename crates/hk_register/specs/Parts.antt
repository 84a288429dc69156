-- The invariant of one key, part by part. Each part is a fact about one node, letter, mark, update or item, made of
-- facts that stay true: so an effect owes only what it makes anew.
use Rattle.hk_base.specs.declared.call.Content.{Content}
use Rattle.hk_base.specs.declared.call.Answer.{Answer}
use Rattle.hk_base.specs.declared.call.Op.{Op}
use Rattle.std.specs.Prelude.{Option, None, ◌≡◌, ◌⊎◌, ℕ, true, false, List, [], ◌∷◌, ◌<◌, ◌≤◌, ⊤}
use Rattle.hk_register.specs.Machine.{In, Marked, Note, WaitingUpdate, Phase, Node, Message, Mark, Update, Item, RegisterState}
use Rattle.hk_base.specs.declared.stamp.Kind.{Kind}
use Rattle.hk_base.specs.declared.stamp.Kind.TheVariants as Kind
use Rattle.hk_register.specs.Machine.Phase.{Valid, Invalid, Write, Replay, Trans}
use Rattle.hk_register.specs.Machine.Message.{Inv, Ack, Val, Give}
use Rattle.hk_register.specs.Machine.Item.{Called, Answered, ReadOnly, Rejected, Dropped}
use Rattle.hk_register.specs.Facts.{Covers, Exact, ReadyCovers, Complete, Settled, Rests, Bound, PassesOver}
use Rattle.hk_register.specs.Effects.{row_mark, next_stamp, IsBlind, Changes, Stays, register_of}

-- the stamp is that of a begun update, with its kind and content
pub record Known (st : RegisterState) (s : ℕ) (kind : Kind) (content : Option Content) : Type 0 where
  pub update : Update
  pub begun : In st.begun update
  pub stamp : update.stamp ≡ s
  pub same_kind : update.kind ≡ kind
  pub same_content : update.content ≡ content

-- the first register holds nothing, and each other is an update's
abbrev pub Holds : RegisterState → ℕ → Kind → Option Content → Type 0
Holds st s kind content = (s ≡ 0) × (content ≡ None) ⊎ Known st s kind content

-- What an update left and answered is what its operation makes of the register at its base; a plain write does so at any
-- register.
pub record Made (st : RegisterState) (u : Update) : Type 0 where
  pub base_kind : Kind
  pub base_content : Option Content
  pub holds : Holds st u.base base_kind base_content
  pub blind : u.kind ≡ Kind.Write → IsBlind u.op
  pub changes : Changes u base_content

module _ (V : ℕ → List ℕ) where
  -- a note tells the truth about a member of the view, in this epoch
  pub record NoteOk (st : RegisterState) (e s : ℕ) (k : Note) : Type 0 where
    pub member : In (V e) k.who
    pub covers : Covers st k.who e s
    pub exact : k.exact ≡ true → Exact st k.who e s

  -- A node with a pending update is ready and covers it, at or below its row; the update was begun; its notes are true.
  pub record PendingOk (st : RegisterState) (n : ℕ) (x : Node) (p : WaitingUpdate) : Type 0 where
    pub ready : x.ready ≡ true
    pub covers : ReadyCovers st n x.epoch p.stamp
    pub below : p.stamp ≤ x.stamp
    pub positive : 1 ≤ p.stamp
    pub known : Known st p.stamp p.kind p.content
    pub notes : (k : Note) → In p.notes k → NoteOk st x.epoch p.stamp k

  -- A Valid row is settled, an Invalid one has an update to replay; in Write and Replay the row is the pending update's;
  -- in Trans a plain write waits.
  abbrev pub PhaseOk : RegisterState → ℕ → Node → Phase → Type 0
  PhaseOk st n x Valid = Rests V st x.stamp
  PhaseOk st n x Invalid = 1 ≤ x.stamp
  PhaseOk st n x (Write p) = PendingOk st n x p × (p.stamp ≡ x.stamp)
  PhaseOk st n x (Replay p) = PendingOk st n x p × (p.stamp ≡ x.stamp)
  PhaseOk st n x (Trans p) = PendingOk st n x p × (p.kind ≡ Kind.Write)

  -- Of a node: it is a member of its view; its row is marked; without a view it has nothing; a copied row is not below
  -- what any earlier view completed (`bound`, the part on joiners); its row is a begun update's; the bit and the state
  -- say what they mean.
  pub record NodeOk (st : RegisterState) (n : ℕ) (x : Node) : Type 0 where
    pub member : 1 ≤ x.epoch → In (V x.epoch) n
    pub marked : 1 ≤ x.epoch → Marked st (row_mark n x)
    pub resting : x.epoch ≡ 0 → (x.stamp ≡ 0) × (x.ready ≡ false) × (x.copied ≡ false)
    pub copied : x.ready ≡ true → x.copied ≡ true
    pub bound : x.copied ≡ true → (e : ℕ) → 1 ≤ e → e < x.epoch → Bound V st e x.stamp
    pub known : Holds st x.stamp x.kind x.content
    pub kept : x.kept_val ≡ true → Rests V st x.stamp
    pub phase : PhaseOk st n x x.phase

  -- the same node's row had the stamp in the same epoch, and it was as ready
  pub record Twin (st : RegisterState) (k : Mark) : Type 0 where
    pub mark : Mark
    pub marked : Marked st mark
    pub who : mark.who ≡ k.who
    pub epoch : mark.epoch ≡ k.epoch
    pub stamp : mark.stamp ≡ k.stamp
    pub ready : k.ready ≡ true → mark.ready ≡ true
    pub exact : mark.exact ≡ true

  -- A mark is of a begun update; a read-modify-write is covered only by a row; and in each view up to the mark's epoch
  -- some member passes over what lies between the update and its base.
  pub record MarkBegun (st : RegisterState) (k : Mark) : Type 0 where
    pub update : Update
    pub begun : In st.begun update
    pub stamp : update.stamp ≡ k.stamp
    pub rmw : update.kind ≡ Kind.Rmw → Twin st k
    pub over : (e : ℕ) → 1 ≤ e → e ≤ k.epoch → PassesOver V st e update.base update.stamp

  -- Of a mark: its node is a member of the epoch's view, and has not gone back in epoch or stamp; a ready row was not
  -- below what any earlier view completed.
  pub record MarkOk (st : RegisterState) (k : Mark) : Type 0 where
    pub some_epoch : 1 ≤ k.epoch
    pub epoch : k.epoch ≤ (st.node k.who).epoch
    pub member : In (V k.epoch) k.who
    pub top : k.stamp ≤ (st.node k.who).stamp
    pub bound : k.exact ≡ true → k.ready ≡ true → (e : ℕ) → 1 ≤ e → e < k.epoch → Bound V st e k.stamp
    pub begun : (k.stamp ≡ 0) ⊎ MarkBegun st k

  -- Of an update: its stamp is the next one of its coordinator's, which is not below it; its base is settled; it was made
  -- by its operation.
  pub record UpdateOk (st : RegisterState) (u : Update) : Type 0 where
    pub node : u.who < 65536
    pub next : u.stamp ≡ next_stamp u.kind u.base u.who
    pub below : u.stamp ≤ (st.node u.who).stamp
    pub base : Rests V st u.base
    pub made : Made st u

  -- Of a letter: the sender covered its stamp in its epoch; an ACK with top equal to the stamp tells of the row; a VAL is
  -- of a settled update; a copied row is not below what any earlier view completed.
  abbrev pub LetterOk : RegisterState → Message → Type 0
  LetterOk st (Inv m e s kind content) = Covers st m e s × Known st s kind content
  LetterOk st (Ack m e s top) = Covers st m e s × (top ≡ s → Exact st m e s)
  LetterOk st (Val m e s) = Settled V st s
  LetterOk st (Give m e s kind content valid) =
      ((s ≡ 0) × (content ≡ None) ⊎ Covers st m e s × Known st s kind content) × (valid ≡ true → Rests V st s) × ((f : ℕ) → 1 ≤ f → f < e → Bound V st f s)

  -- Of an item: an answered update is complete; a call that changed nothing found a settled register, at which its
  -- operation changes nothing.
  abbrev pub ItemOk : RegisterState → Item → Type 0
  ItemOk st (Called c s op) = ⊤
  ItemOk st (Answered c s a) = Complete V st s × (1 ≤ s)
  ItemOk st (ReadOnly c s op content a) = Rests V st s × (kind : Kind) × Holds st s kind content × Stays op (register_of content s) a
  ItemOk st (Rejected c op a) = ⊤
  ItemOk st (Dropped c s a) = ⊤

  -- every stamp at which a call was answered is below this one
  pub record AllBelow (items : List Item) (b : ℕ) : Type 0 where
    pub answered : (c a : ℕ) (x : Answer) → In items (Answered c a x) → a < b
    pub looked : (c a : ℕ) (op : Op) (held : Option Content) (x : Answer) → In items (ReadOnly c a op held x) → a < b

  -- or not above it
  pub record AllUpTo (items : List Item) (b : ℕ) : Type 0 where
    pub answered : (c a : ℕ) (x : Answer) → In items (Answered c a x) → a ≤ b
    pub looked : (c a : ℕ) (op : Op) (held : Option Content) (x : Answer) → In items (ReadOnly c a op held x) → a ≤ b

  -- A call that was made after an answer stands above it where it changes the key, and not below it where it does not.
  -- The newest item comes first.
  abbrev pub TimelyAfter : List Item → Type 0
  TimelyAfter [] = ⊤
  TimelyAfter (Called c b op ∷ items) = AllBelow items b × TimelyAfter items
  TimelyAfter (ReadOnly c b op held x ∷ items) = AllUpTo items b × TimelyAfter items
  TimelyAfter (Answered c a x ∷ items) = TimelyAfter items
  TimelyAfter (Rejected c op x ∷ items) = TimelyAfter items
  TimelyAfter (Dropped c a x ∷ items) = TimelyAfter items

  pub record Parts (st : RegisterState) : Type 0 where
    pub nodes : (n : ℕ) → NodeOk st n (st.node n)
    pub letters : (l : Message) → In st.letters l → LetterOk st l
    pub marks : (k : Mark) → Marked st k → MarkOk st k
    pub updates : (u : Update) → In st.begun u → UpdateOk st u
    -- a stamp belongs to one update
    pub once : (u v : Update) → In st.begun u → In st.begun v → u.stamp ≡ v.stamp → u ≡ v
    pub items : (i : Item) → In st.history i → ItemOk st i
    pub timely : TimelyAfter st.history
