-- The letters of a row's step, seen from its key and from others.
use Rattle.std.proofs.Common.{◌≡◌, ◌≢◌, ℕ, List, [], ◌∷◌, ◌∙◌, refl, inl, ⊎_elim, Option, Some, None}
use Rattle.hk_base.specs.declared.stamp.Stamp.{Stamp}
use Rattle.hk_base.specs.declared.stamp.NodeId.{NodeId}
use Rattle.hk_base.specs.declared.stamp.Kind.{Kind}
use Rattle.hk_base.specs.declared.call.Content.{Content}
use Rattle.hk_base.specs.declared.letter.Body.{Body}
use Rattle.hk_base.specs.declared.letter.Body.TheVariants as Body
use Rattle.hk_base.specs.Stamp.{tag_of}
use Rattle.hk_key.specs.declared.row.Pending.{Pending}
use Rattle.hk_key.specs.declared.row.Row.{Row}
use Rattle.hk_key.specs.declared.out.What.{What}
use Rattle.hk_key.specs.declared.out.What.TheVariants as What
use Rattle.hk_key.specs.declared.out.Sending.{Sending}
use Rattle.hk_register.specs.Machine.{In, Node, Message}
use Rattle.hk_register.specs.Machine.Message.{Inv, Ack, Val}
use Rattle.hk_node.specs.Node.{NodeState, epoch_of}
use Rattle.hk_node.specs.Sends.{letters_to, pending_body, body_of, sent}
use Rattle.hk_effects.specs.Projection.{letters_of, ack_marks}
use Rattle.hk_effects.proofs.Order.{same_itself, same_not}

module _ (key : List ℕ) (x : NodeState) where
  pub ack_is : (s top : Stamp) (n : NodeId) → letters_of key (letters_to x (Body.Ack key s top) (n ∷ [])) ≡ Ack x.id.0 (epoch_of x) (tag_of s) (tag_of top) ∷ []
  ack_is s top n = rw (same_itself key) refl

  -- INV to any is one letter
  pub inv_within : (s : Stamp) (kind : Kind) (content : Option Content) (ns : List NodeId) (l : Message) → In (letters_of key (letters_to x (Body.Inv key s kind content) ns)) l → In (Inv x.id.0 (epoch_of x) (tag_of s) kind content ∷ []) l
  inv_within s kind content [] l h = absurd h
  inv_within s kind content (n ∷ ns) l h =
      let h' : In (Inv x.id.0 (epoch_of x) (tag_of s) kind content ∷ letters_of key (letters_to x (Body.Inv key s kind content) ns)) l = rw (same_itself key) at h in
      ⊎_elim inl (inv_within s kind content ns l) h'

  pub inv_no_acks : (id : ℕ) (z : Node) (s : Stamp) (kind : Kind) (content : Option Content) (ns : List NodeId) → ack_marks id z (letters_of key (letters_to x (Body.Inv key s kind content) ns)) ≡ []
  inv_no_acks id z s kind content [] = refl
  inv_no_acks id z s kind content (n ∷ ns) = rw (same_itself key) (inv_no_acks id z s kind content ns)

  pub val_within : (s : Stamp) (ns : List NodeId) (l : Message) → In (letters_of key (letters_to x (Body.Val key s) ns)) l → In (Val x.id.0 (epoch_of x) (tag_of s) ∷ []) l
  val_within s [] l h = absurd h
  val_within s (n ∷ ns) l h =
      let h' : In (Val x.id.0 (epoch_of x) (tag_of s) ∷ letters_of key (letters_to x (Body.Val key s) ns)) l = rw (same_itself key) at h in
      ⊎_elim inl (val_within s ns l) h'

  pub val_no_acks : (id : ℕ) (z : Node) (s : Stamp) (ns : List NodeId) → ack_marks id z (letters_of key (letters_to x (Body.Val key s) ns)) ≡ []
  val_no_acks id z s [] = refl
  val_no_acks id z s (n ∷ ns) = rw (same_itself key) (val_no_acks id z s ns)

-- the body is of this key
abbrev pub IsOfKey : List ℕ → Body → Type 0
IsOfKey k (Body.Inv j s kind content) = j ≡ k
IsOfKey k (Body.Ack j s top) = j ≡ k
IsOfKey k (Body.Val j s) = j ≡ k
IsOfKey k b = ⊥

body_key : (k : List ℕ) (row : Row) (what : What) → IsOfKey k (body_of k row what)
body_key k row What.InvRow = refl
body_key k row What.InvPending = by_pending row.pending
  where
    by_pending : (p : Option Pending) → IsOfKey k (pending_body k row p)
    by_pending None = refl
    by_pending (Some p) = refl
body_key k row (What.Ack s top) = refl
body_key k row (What.Val s) = refl

silent_body : (key k : List ℕ) (x : NodeState) (b : Body) (ns : List NodeId) → key ≢ k → IsOfKey k b → letters_of key (letters_to x b ns) ≡ []
silent_body key k x b [] ne of = refl
silent_body key k x (Body.Inv j s kind content) (n ∷ ns) ne of = let other : key ≢ j = λ w. ne (w ∙ of) in rw (same_not key j other) (silent_body key k x (Body.Inv j s kind content) ns ne of)
silent_body key k x (Body.Ack j s top) (n ∷ ns) ne of = let other : key ≢ j = λ w. ne (w ∙ of) in rw (same_not key j other) (silent_body key k x (Body.Ack j s top) ns ne of)
silent_body key k x (Body.Val j s) (n ∷ ns) ne of = let other : key ≢ j = λ w. ne (w ∙ of) in rw (same_not key j other) (silent_body key k x (Body.Val j s) ns ne of)
silent_body key k x (Body.CopyAsk a r) (n ∷ ns) ne of = absurd of
silent_body key k x (Body.CopyGive a d items) (n ∷ ns) ne of = absurd of
silent_body key k x (Body.LeaseAsk asked) (n ∷ ns) ne of = absurd of
silent_body key k x (Body.LeaseGive e) (n ∷ ns) ne of = absurd of
silent_body key k x (Body.Prepare b) (n ∷ ns) ne of = absurd of
silent_body key k x (Body.Promise b v) (n ∷ ns) ne of = absurd of
silent_body key k x (Body.Accept b v) (n ∷ ns) ne of = absurd of
silent_body key k x (Body.Accepted b) (n ∷ ns) ne of = absurd of
silent_body key k x (Body.Chosen v) (n ∷ ns) ne of = absurd of
silent_body key k x (Body.Activate v) (n ∷ ns) ne of = absurd of

-- a row's step tells nothing of another key
pub silent_other : (key k : List ℕ) (x : NodeState) (row : Row) (send : Option Sending) → key ≢ k → letters_of key (sent x k row send) ≡ []
silent_other key k x row None ne = refl
silent_other key k x row (Some s) ne = silent_body key k x (body_of k row s.what) _ ne (body_key k row s.what)
