-- How a transcript writes what an event showed: the call, the view, the letters by their numbers, the replies.
use Rattle.std.specs.Prelude.{ℕ, List, ◌++◌}
use Rattle.hk_world.specs.declared.shown.Shown.{Shown}
use Rattle.hk_transcript.specs.Text.{call_text, view_line_text, sends_text, replies_text}

unfoldable pub shown_text : ℕ → Shown → List ℕ
shown_text i s = call_text i s.call ++ view_line_text i s.view s.chosen s.installed ++ sends_text i s.first_letter s.letters ++ replies_text i s.replies
