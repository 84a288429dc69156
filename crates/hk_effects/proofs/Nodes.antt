-- The step of one node, for one key: what it owes.
use Rattle.std.proofs.Common.{◌≡◌, ◌≢◌, ℕ, false, List, [], map, ◌∙◌, sym, refl, ap, subst, inl, Option, Some, None}
use Rattle.hk_base.specs.declared.call.Reply.{Reply}
use Rattle.hk_key.specs.declared.row.Row.{Row}
use Rattle.hk_key.specs.Table.{Done}
use Rattle.hk_register.specs.Machine.{Node, Message, Update, Item, RegisterState}
use Rattle.hk_register.specs.Effects.{Change}
use Rattle.hk_register.specs.Effects.Effect.{Quiet}
use Rattle.hk_register.specs.Parts.{Parts}
use Rattle.hk_node.specs.Rows.{find_row, row_at, is_touched}
use Rattle.hk_node.specs.Node.{NodeState}
use Rattle.hk_node.specs.Sends.{sent}
use Rattle.hk_node.specs.Stepped.{Stepped, idle, row_step}
use Rattle.hk_node.specs.Steps.{on_found}
use Rattle.hk_effects.specs.Projection.{key_node, row_node, has_copied, letters_of, pending_stamp, told_at, reply_item, updates_of, step_marks}
use Rattle.hk_effects.specs.Laws.{Effects}
use Rattle.hk_effects.proofs.Order.{row-with_same, row-with_other}
use Rattle.hk_effects.proofs.Marks.{acks_are_new}
use Rattle.hk_effects.proofs.Sends.{silent_other}
use Rattle.hk_effects.proofs.Replies.{told_own, told_other, reply_alone_begins_none}
use Rattle.hk_effects.proofs.Steps.{Owes, told, sourced, old_row}
use Rattle.hk_effects.proofs.Rests.{found_row}

module _ (V : ℕ → List ℕ) (st : RegisterState) (parts : Parts V st) (key : List ℕ) (x : NodeState) (is : st.node x.id.0 ≡ key_node key (Some x)) where
  -- what a step of the node owes to the key, that says this in the key's history
  abbrev pub OwesNode : Stepped → List Item → Type 0
  OwesNode o hs =
      (new : RegisterState) → Change st new x.id.0 (key_node key (Some o.node)) (letters_of key o.letters) (step_marks x.id.0 (key_node key (Some x)) (key_node key (Some o.node)) (letters_of key o.letters))
      (updates_of x.id.0 (key_node key (Some x)) hs) hs → Effects V st new

  -- what is said by an event that is no call
  abbrev pub told_items : Stepped → List Item
  told_items o = map (reply_item (pending_stamp (key_node key (Some x)).phase)) (told_at key o.told)

  abbrev pub OwesStep : Stepped → Type 0
  OwesStep o = OwesNode o (told_items o)

  -- nothing changes, and this is said
  pub said_node : (o : Stepped) (hs : List Item) → key_node key (Some o.node) ≡ key_node key (Some x) → letters_of key o.letters ≡ [] → updates_of x.id.0 (key_node key (Some x)) hs ≡ [] →
      ((new : RegisterState) → Change st new x.id.0 (key_node key (Some x)) [] [] [] hs → Effects V st new) → OwesNode o hs
  said_node o hs same silent begun effect new ch =
      let z : Node = key_node key (Some x) in
      let row = row_at key x.rows in
      let ch1 = subst (λ (y : Node). Change st new x.id.0 y (letters_of key o.letters) (step_marks x.id.0 z y (letters_of key o.letters)) (updates_of x.id.0 z hs) hs) same ch in
      let ch2 = subst (λ (ls : List Message). Change st new x.id.0 z ls (step_marks x.id.0 z z ls) (updates_of x.id.0 z hs) hs) silent ch1 in
      let ch3 = subst (λ (us : List Update). Change st new x.id.0 z [] (step_marks x.id.0 z z []) us hs) begun ch2 in
      effect new (acks_are_new st x.id.0 z new z [] [] [] [] hs (λ some. old_row V st parts key x (has_copied x key) row is row refl some) refl (sourced V st parts key x (has_copied x key) row is) (λ l h. h) ch3)

  -- nothing of the key changes
  pub quiet_node : (o : Stepped) (hs : List Item) → key_node key (Some o.node) ≡ key_node key (Some x) → letters_of key o.letters ≡ [] → hs ≡ [] → OwesNode o hs
  quiet_node o hs same silent none =
      subst (λ (hs : List Item). OwesNode o hs) (sym none) (said_node o [] same silent refl (λ new ch. inl (Quiet x.id.0, record { allowed = tt; change = rw is ch })))

  pub idle_step : OwesStep (idle x)
  idle_step = quiet_node (idle x) [] refl refl refl

  -- a row's step, on its key
  pub own_row : (d : Done) (hs : List Item) (us : List Update) → (is_touched d.row ≡ false → d.row ≡ row_at key x.rows) → updates_of x.id.0 (key_node key (Some x)) hs ≡ us →
      Owes V st parts key x (has_copied x key) (row_at key x.rows) is d us hs → OwesNode (row_step x key d) hs
  own_row d hs us unchanged begun owes new ch =
      let z0 : Node = key_node key (Some x) in
      let node : key_node key (Some (row_step x key d).node) ≡ row_node x (has_copied x key) d.row = ap (row_node x (has_copied x key)) (row-with_same key d.row x.rows unchanged) in
      let ls = letters_of key (sent x key d.row d.out.send) in
      let ch1 = subst (λ (y : Node). Change st new x.id.0 y ls (step_marks x.id.0 z0 y ls) (updates_of x.id.0 z0 hs) hs) node ch in
      owes new (subst (λ (us : List Update). Change st new x.id.0 (row_node x (has_copied x key) d.row) ls (step_marks x.id.0 z0 (row_node x (has_copied x key) d.row) ls) us hs) begun ch1)

  -- of an event that is no call
  pub own_told : (d : Done) (hs : List Item) → (is_touched d.row ≡ false → d.row ≡ row_at key x.rows) →
      told V st parts key x (has_copied x key) (row_at key x.rows) is d ≡ hs → Owes V st parts key x (has_copied x key) (row_at key x.rows) is d [] hs → OwesStep (row_step x key d)
  own_told d hs unchanged says owes =
      let n : ℕ = pending_stamp (key_node key (Some x)).phase in
      let items : told_items (row_step x key d) ≡ hs = told_own key n d.out.reply ∙ says in
      let none : updates_of x.id.0 (key_node key (Some x)) hs ≡ [] = subst (λ (h : List Item). updates_of x.id.0 (key_node key (Some x)) h ≡ []) says (reply_alone_begins_none x.id.0 (key_node key (Some x)) n d.out.reply) in
      subst (λ (h : List Item). OwesNode (row_step x key d) h) (sym items) (own_row d hs [] unchanged none owes)

  -- and on another key
  pub other_row : (k : List ℕ) (d : Done) (hs : List Item) → key ≢ k → hs ≡ [] → OwesNode (row_step x k d) hs
  other_row k d hs ne none = quiet_node (row_step x k d) hs (ap (row_node x (has_copied x key)) (row-with_other key k d.row x.rows ne)) (silent_other key k x d.row d.out.send ne) none

  pub other_told : (k : List ℕ) (d : Done) → key ≢ k → OwesStep (row_step x k d)
  other_told k d ne = other_row k d (told_items (row_step x k d)) ne (ap (λ (rs : List Reply). map (reply_item (pending_stamp (key_node key (Some x)).phase)) rs) (told_other key k d.out.reply ne))

  -- a step of a row that is there
  pub found_step : (k : List ℕ) (f : Row → Done) → ((r : Row) → row_at k x.rows ≡ r → OwesStep (row_step x k (f r))) → (o : Option Row) → find_row k x.rows ≡ o → OwesStep (on_found o x k f)
  found_step k f owes None e = idle_step
  found_step k f owes (Some r) e = owes r (found_row k x.rows r e)
