-- What an operation does to the register that a row is.
use Rattle.std.proofs.Common.{◌≡◌, ℕ, Some, None, Result, Ok, Err, IfOk, refl, sym, ap, subst}
use Rattle.hk_base.specs.declared.call.Content.{Content}
use Rattle.hk_base.specs.declared.call.Op.{Op}
use Rattle.hk_base.specs.Range.{Leaves}
use Rattle.hk_base.specs.Register.{Register, Acted, act}
use Rattle.hk_base.specs.Stamp.{tag_of}
use Rattle.hk_base.specs.declared.memory.Memory.{Memory}
use Rattle.hk_key.specs.declared.row.Row.{Row}
use Rattle.hk_rmw.specs.declared.outcome.Turn.{Turn}
use Rattle.hk_rmw.specs.declared.outcome.Turn.TheVariants.{Change, Stay}
use Rattle.hk_rmw.specs.Turned.{acted_of}
use Rattle.hk_node.specs.Calls.{kind_of, register_in}
use Rattle.hk_node.specs.Decided.{Turns}
use Rattle.hk_node.proofs.Leaving.{act_leaves}

turns : (turn : Turn) (op : Op) (row : Row) → ((newtag : ℕ) → acted_of turn (register_in row) newtag ≡ act op (register_in row) newtag) → Turns turn op row
turns (Stay answer) op row h = (sym (ap (λ (a : Acted). a.changed) (h 0)), sym (ap (λ (a : Acted). a.answer) (h 0)))
turns (Change content answer) op row h = (
  sym (ap (λ (a : Acted). a.changed) (h 0)),
  subst (Leaves (kind_of op)) (sym (ap (λ (a : Acted). a.register.content) (h 0))) (act_leaves op row.content (tag_of row.stamp) 0),
  λ newtag. (sym (ap (λ (a : Acted). a.answer) (h newtag)), sym (ap (λ (a : Acted). a.register.content) (h newtag))),
)

-- the turn of a row that holds nothing
pub turned_none : (r : Result Turn Memory) (op : Op) (row : Row) → row.content ≡ None →
    IfOk r (λ turn. (register : Register) → register.content ≡ None → (newtag : ℕ) → acted_of turn register newtag ≡ act op register newtag) → IfOk r (λ turn. Turns turn op row)
turned_none (Ok turn) op row none h = turns turn op row (h (register_in row) none)
turned_none (Err e) op row none h = tt

-- of one that holds a content
pub turned_some : (r : Result Turn Memory) (op : Op) (row : Row) (held : Content) (tag : ℕ) → row.content ≡ Some held → tag ≡ tag_of row.stamp →
    IfOk r (λ turn. (register : Register) → register ≡ record { content = Some held; tag = tag } → (newtag : ℕ) → acted_of turn register newtag ≡ act op register newtag) → IfOk r (λ turn. Turns turn op row)
turned_some (Ok turn) op row held tag some same h = turns turn op row (h (register_in row) (rw (some, same) refl))
turned_some (Err e) op row held tag some same h = tt
