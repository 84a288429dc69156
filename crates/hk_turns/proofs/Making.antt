-- What the turns of a worker make, a turn more.
use Rattle.std.proofs.Common.{◌≡◌, inl, inr, ℕ, suc, ◌+◌, List, ◌∷◌, Bool, true, false, not, Option, refl, sym, ap, ◌∙◌, subst, arith}
use Rattle.std.proofs.lemmas.Bool.{false≢true}
use Rattle.std.specs.List.{AllByRecursion}
use Rattle.hk_base.specs.declared.stamp.NodeId.{NodeId}
use Rattle.hk_base.specs.declared.letter.Actor.TheVariants.{Node}
use Rattle.hk_base.specs.declared.letter.Letter.{Letter}
use Rattle.hk_base.specs.Range.{IsLetter}
use Rattle.hk_node.specs.declared.event.NodeEvent.{NodeEvent}
use Rattle.hk_link.specs.declared.parcel.Parcel.{Parcel}
use Rattle.hk_overseer.specs.Sends.{is_same}
use Rattle.hk_due.specs.declared.due.Due.{Due}
use Rattle.hk_turns.specs.Workers.{WorkerState, TakesParcel}
use Rattle.hk_turns.specs.Turns.{Way, GoesOut, GoOut, IsReceived, Working, IsTurn, at_gate, AreTurns, begins, Works}

tail_of : (letter : Letter) (rest more : List Letter) → rest ≡ letter ∷ more → AllByRecursion IsLetter rest → AllByRecursion IsLetter more
tail_of letter rest more is all = (subst (AllByRecursion IsLetter) is all).1

pub in_range : (letter : Letter) (rest more : List Letter) → rest ≡ letter ∷ more → AllByRecursion IsLetter rest → AllByRecursion IsLetter more
in_range letter rest more is all = tail_of letter rest more is all

-- one letter goes out, and then the others
pub out_more : {G : Type 0} (answers : G → Bool → G → Type 0) (shard : ℕ) (letter : Letter) (rest more : List Letter) (before between after : Way G) → rest ≡ letter ∷ more
    → (kept : Bool) × answers before.gate kept between.gate × GoesOut kept shard letter before.outlets between.outlets → GoOut answers shard more between after → GoOut answers shard rest before after
out_more answers shard letter rest more before between after is put others =
    subst (λ (l : List Letter). GoOut answers shard l before after) (sym is) (put.0, between, put.1, put.2, others)

-- ---- a turn
pub received_turn : {G : Type 0} (applies : ℕ → NodeEvent → List Letter → Type 0) (finds : ℕ → Option (List ℕ) → ℕ → Option Due → Type 0) (owes : ℕ → Due → Type 0) (lacks : ℕ → Type 0) (answers : G → Bool → G → Type 0)
    (w noted after : WorkerState) (node : NodeId) (parcel : Parcel) (way out : Way G) → noted ≡ w → TakesParcel parcel noted after → node ≡ after.node
    → IsReceived applies lacks answers (is_same (Node node) parcel.letter.to) parcel way out
    → IsTurn applies finds owes lacks answers (record { worker = w; way = way }) (record { worker = after; way = out })
received_turn applies finds owes lacks answers w noted after node parcel way out same taken is received = inl (record {
  parcel = parcel;
  taken = subst (λ (x : WorkerState). TakesParcel parcel x after) same taken;
  received = subst (λ (n : NodeId). IsReceived applies lacks answers (is_same (Node n) parcel.letter.to) parcel way out)
      (is ∙ ap (λ (x : WorkerState). x.node) taken.same ∙ ap (λ (x : WorkerState). x.node) same) received;
})

-- ---- the turns
pub let_pass : (told shut : Bool) → told ≡ not shut → not told ≡ false → shut ≡ false
let_pass told false is open_one = refl
let_pass told true is open_one = absurd (false≢true (sym open_one ∙ ap not is))

pub shut_out : (told shut : Bool) → told ≡ not shut → not told ≡ true → shut ≡ true
shut_out told true is shut_one = refl
shut_out told false is shut_one = absurd (false≢true (sym (ap not is) ∙ shut_one))

module _ {G : Type 0} (applies : ℕ → NodeEvent → List Letter → Type 0) (finds : ℕ → Option (List ℕ) → ℕ → Option Due → Type 0) (owes : ℕ → Due → Type 0) (lacks : ℕ → Type 0) (answers : G → Bool → G → Type 0) (closed : G → Bool) where
  pub turned : (n : ℕ) (before between after : Working G) (passed : G) → AreTurns applies finds owes lacks answers closed n before between → closed passed ≡ false
      → IsTurn applies finds owes lacks answers (at_gate between passed) after → AreTurns applies finds owes lacks answers closed (n + 1) before after
  turned n before between after passed turns passes turn =
      subst (λ k. AreTurns applies finds owes lacks answers closed k before after) (plus_one n) (between, turns, passed, passes, turn)
    where
      plus_one : (n : ℕ) → suc n ≡ n + 1
      plus_one n = omega arith

  pub works_to : (n turns ticket : ℕ) (before last : Working G) → n ≡ turns → AreTurns applies finds owes lacks answers closed n (begins before ticket) last
      → Works applies finds owes lacks answers closed turns before last
  works_to n turns ticket before last is made = record {
    ticket = ticket;
    last = last;
    turned = subst (λ k. AreTurns applies finds owes lacks answers closed k (begins before ticket) last) is made;
    end = inl refl;
  }

  pub works_until : (n ticket : ℕ) (before last : Working G) (gate : G) → closed gate ≡ true → AreTurns applies finds owes lacks answers closed n (begins before ticket) last
      → Works applies finds owes lacks answers closed n before (at_gate last gate)
  works_until n ticket before last gate shut made = record { ticket = ticket; last = last; turned = made; end = inr (refl, shut) }
