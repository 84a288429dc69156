-- The lines that a storm writes.
use Rattle.std.specs.Prelude.{ℕ, List, [], ◌++◌, Option, Some, None, codes, decimal}
use Rattle.hk_base.specs.declared.call.Answer.{Answer}
use Rattle.hk_assemble.specs.declared.gap.Gap.{Gap}
use Rattle.hk_assemble.specs.declared.gap.Gap.TheVariants as Gap
use Rattle.hk_transcript.specs.Text.{answer_text}
use Rattle.hk_storm.specs.declared.opts.StormOpts.{StormOpts}
use Rattle.hk_storm.specs.declared.compare.Unlike.{Unlike}
use Rattle.hk_storm.specs.declared.outcomes.Outcomes.{Outcomes}
use Rattle.hk_storm.specs.declared.report.Report.{Report}
use Rattle.hk_storm.specs.declared.report.Report.TheVariants.{Legal, Unfit, Unasked}

-- what was asked for
abbrev pub request_line : StormOpts → List ℕ
request_line opts = codes "storm " ++ decimal opts.nodes ++ codes " " ++ decimal opts.workers ++ codes " " ++ decimal opts.calls ++ codes "\n"

abbrev pub outcomes_line : Outcomes → List ℕ
outcomes_line o =
    codes "answered " ++ decimal o.answered ++ codes " busy " ++ decimal o.busy ++ codes " aborted " ++ decimal o.aborted ++ codes " open " ++ decimal o.unanswered ++ codes " legal\n"

abbrev pub sent_text : Option ℕ → List ℕ
sent_text None = codes "none"
sent_text (Some ticket) = decimal ticket

abbrev pub kept_text : Option Answer → List ℕ
kept_text None = codes "none"
kept_text (Some answer) = answer_text answer

-- an entry or a note that no run can have; want of memory has no line
abbrev pub gap_line : Gap → List ℕ
gap_line Gap.Memory = []
gap_line (Gap.Letter taken sent) = codes "gap letter " ++ decimal taken ++ codes " " ++ sent_text sent ++ codes "\n"
gap_line (Gap.Entry node ticket given) = codes "gap entry " ++ decimal node.0 ++ codes " " ++ decimal ticket ++ codes "\n"
gap_line (Gap.Note call ticket told kept) =
    codes "gap note " ++ decimal call.0 ++ codes " " ++ decimal ticket ++ codes " " ++ answer_text told ++ codes " " ++ kept_text kept ++ codes "\n"

abbrev pub unlike_line : Unlike → List ℕ
unlike_line unlike = codes "gap calls " ++ decimal unlike.call ++ codes " " ++ decimal unlike.drawn ++ codes " " ++ decimal unlike.made ++ codes "\n"

unfoldable pub report_text : StormOpts → Report → List ℕ
report_text opts (Legal outcomes) = request_line opts ++ outcomes_line outcomes
report_text opts (Unfit gap) = gap_line gap
report_text opts (Unasked unlike) = unlike_line unlike
