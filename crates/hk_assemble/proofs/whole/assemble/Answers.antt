use Rattle.std.proofs.Common.{rules, ◌≡◌, List, Err, map, sym, subst}
use Rattle.hk_merge.specs.Merged.{Item, AreMerged}
use Rattle.hk_merge.specs.Placed.{item_of, merged}
use Rattle.hk_assemble.specs.declared.gap.Gap.TheVariants as Gap
use Rattle.hk_assemble.specs.Assemblies.{IsOn}
use Rattle.hk_assemble.specs.Assembled.{IsAssembled}
use Rattle.hk_assemble.proofs.Assembling.{gap_is, run_is, failed_is}
use Rattle.hk_assemble.proofs.whole.assemble.Goals as goal

pub returns-in_err-slots : goal.returns-in_err-slots
returns-in_err-slots c =
    let journals = c.args.journals.now in
    let notes = c.args.notes.now in
    let told : c.from_residual.result ≡ Err Gap.Memory = search rules in
    subst (λ r. IsAssembled r c.args.header c.args.journals.now c.args.notes.now) (sym told) (merged journals notes, c.merge_is_merged.ensures journals notes c.requires.rising, tt)

pub returns-in_err-assembly : goal.returns-in_err-assembly
returns-in_err-assembly c =
    let journals = c.args.journals.now in
    let notes = c.args.notes.now in
    let items = map item_of c.in_ok-slots.slots.items in
    let same : map item_of c.in_ok-slots.slots.items ≡ merged c.args.journals.now c.args.notes.now = search rules in
    let list : map item_of c.deref.result.now ≡ map item_of c.in_ok-slots.slots.items = search rules in
    let told : c.from_residual-in_err-assembly.result ≡ Err c.in_err-assembly.field-0.0 = search rules in
    subst (λ r. IsAssembled r c.args.header c.args.journals.now c.args.notes.now) (sym told)
    (items, subst (λ (l : List Item). AreMerged journals notes l) (sym same) (c.merge_is_merged.ensures journals notes c.requires.rising), failed_is c.args.header journals notes items c.in_err-assembly.field-0.0 (search rules))

pub returns-in_err-check_notes : goal.returns-in_err-check_notes
returns-in_err-check_notes c =
    let journals = c.args.journals.now in
    let notes = c.args.notes.now in
    let items = map item_of c.in_ok-slots.slots.items in
    let same : map item_of c.in_ok-slots.slots.items ≡ merged c.args.journals.now c.args.notes.now = search rules in
    let on : IsOn c.args.header c.in_ok-assembly.assembly (map item_of c.in_ok-slots.slots.items) = search rules in
    let told : c.from_residual-in_err-check_notes.result ≡ Err c.in_err-check_notes.field-0.0 = search rules in
    let is : AreMerged c.args.journals.now c.args.notes.now (map item_of c.in_ok-slots.slots.items) = subst (λ (l : List Item). AreMerged c.args.journals.now c.args.notes.now l) (sym same) (c.merge_is_merged.ensures c.args.journals.now c.args.notes.now c.requires.rising) in
    subst (λ r. IsAssembled r c.args.header c.args.journals.now c.args.notes.now) (sym told) (
      items,
      is,
      gap_is c.args.header journals notes items c.in_ok-assembly.assembly.run c.in_ok-assembly.assembly.sent.entries c.in_ok-assembly.assembly.kept.entries on is c.kept_is_shown.ensures c.requires.rising c.requires.alone c.requires.whole
          c.in_err-check_notes.field-0.0 (search rules),
    )

pub returns : goal.returns
returns c =
    let journals = c.args.journals.now in
    let notes = c.args.notes.now in
    let items = map item_of c.in_ok-slots.slots.items in
    let same : map item_of c.in_ok-slots.slots.items ≡ merged c.args.journals.now c.args.notes.now = search rules in
    let on : IsOn c.args.header c.in_ok-assembly.assembly (map item_of c.in_ok-slots.slots.items) = search rules in
    let is : AreMerged c.args.journals.now c.args.notes.now (map item_of c.in_ok-slots.slots.items) = subst (λ (l : List Item). AreMerged c.args.journals.now c.args.notes.now l) (sym same) (c.merge_is_merged.ensures c.args.journals.now c.args.notes.now c.requires.rising) in
    (items, is, run_is c.args.header journals notes items c.in_ok-assembly.assembly.run c.in_ok-assembly.assembly.sent.entries c.in_ok-assembly.assembly.kept.entries on is c.kept_is_shown.ensures c.requires.rising c.requires.alone c.requires.whole (search rules))
