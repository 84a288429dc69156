use Rattle.hk_frame.specs.Frames.{item_bytes}
use Rattle.hk_frame.proofs.Puts.{kept_before, on_error, one_more}
use Rattle.hk_frame.proofs.print.put_each_item.Goals as goal

pub returns-in_err-put_item-clause-kept : goal.returns-in_err-put_item-clause-kept
returns-in_err-put_item-clause-kept c = on_error c.from_residual.result _ _ (kept_before _ _ _ _ c.loop-item.invariant c.in_err-put_item.ensures.kept)

pub loop-item-preserved : goal.loop-item-preserved
loop-item-preserved c = one_more item_bytes c.args.out.now.items c.loop-item.out.items c.put_item.new.out.items c.args.items.now c.loop-item.item-index c.item-item.result c.loop-item-test.true c.item-item.is c.loop-item.invariant c.in_ok-put_item.ensures.printed
