use Rattle.std.proofs.Common.{ℕ, ◌∷◌, ◌++◌, [], List, sym, ap, subst, ◌∙◌, refl}
use Rattle.std.specs.Ordering.{nat_cmp}
use Rattle.std.specs.BTreeMap.{insert_entry, is_at}
use Rattle.std.specs.Map.{lookup}
use Rattle.hk_storm.specs.declared.outcomes.Outcome.{Outcome}
use Rattle.hk_storm.specs.Outcomes.{IsTold}
use Rattle.hk_storm.proofs.Outcoming.{known_by, unknown_by}
use Rattle.hk_storm.proofs.outcomes.note.Goals as goal

pub returns-then-contains_key : goal.returns-then-contains_key
returns-then-contains_key c = λ replies told. known_by c.args.kept.now.entries replies c.args.reply.now told (lookup (is_at (nat_cmp c.args.reply.now.call.0)) c.args.kept.now.entries) refl (sym c.contains_key.ensures ∙ c.if-contains_key.true)

pub returns : goal.returns
returns c = λ replies told.
    subst (λ (l : List (ℕ × Outcome)). IsTold l (replies ++ c.args.reply.now ∷ []))
    (sym (c.in_ok-insert.ensures.entries ∙ ap (λ (o : Outcome). insert_entry nat_cmp c.args.kept.now.entries c.args.reply.now.call.0 o) c.outcome_of.ensures))
    (unknown_by c.args.kept.now.entries replies c.args.reply.now told (lookup (is_at (nat_cmp c.args.reply.now.call.0)) c.args.kept.now.entries) refl (sym c.contains_key.ensures ∙ c.if-contains_key.false))
