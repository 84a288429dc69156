-- Of what is wished, and of views that begin, the log tells nothing.
use Rattle.std.proofs.Common.{◌≡◌, ℕ, Bool, true, false, cond, List, Option, None, Some, Result, Ok, Err, IfOk, OnErr, refl, ap, ◌∙◌}
use Rattle.hk_base.specs.declared.memory.Memory.{Memory}
use Rattle.hk_base.specs.declared.view.View.{View}
use Rattle.hk_keeper.specs.declared.heard.Wish.{Wish}
use Rattle.hk_keeper.specs.declared.heard.Wish.TheVariants.{Nothing, Propose, Activate}
use Rattle.hk_keeper.specs.Table.{wishes}
use Rattle.hk_stage.specs.Opening.{takes_letters}
use Rattle.hk_log.specs.declared.entry.Entry.{Entry}
use Rattle.hk_office.specs.declared.office.Office.{Office}
use Rattle.hk_office.specs.Laws.{logged_of}
use Rattle.hk_office.specs.Seating.{heard_of}
use Rattle.hk_office.specs.Wishing.{by_shards, wish_at, epoch_in, proposal_noted, kept_in_all, due_in_all, due_noted, all_due_noted, intended_open, intended}
use Rattle.hk_managing.specs.Turns.{StayTold}
use Rattle.hk_managing.proofs.Passing.{stays_told}

proposal_stays : (epoch : Option ℕ) (o : Office) (now shard : ℕ) → logged_of (proposal_noted epoch o now shard) ≡ logged_of o
proposal_stays None o now shard = refl
proposal_stays (Some epoch) o now shard = refl

due_stays : (o o' : Office) (now : ℕ) (views : List View) (shard : ℕ) (wish : Wish) → logged_of o' ≡ logged_of o → logged_of (due_noted o' now views shard wish) ≡ logged_of o
unfolding due_noted
due_stays o o' now views shard Nothing e = e
due_stays o o' now views shard (Propose p) e = proposal_stays (epoch_in views shard) o' now shard ∙ e
due_stays o o' now views shard Activate e = e

all_due_stay : (o : Office) (now : ℕ) (views : List View) (ws : List Wish) → logged_of (all_due_noted o now views ws) ≡ logged_of o
unfolding all_due_noted
all_due_stay o now views ws =
    let a = due_noted o now views 0 (wish_at ws 0) in
    let b = due_noted a now views 1 (wish_at ws 1) in
    let c = due_noted b now views 2 (wish_at ws 2) in
    let d = due_noted c now views 3 (wish_at ws 3) in
    let e = due_noted d now views 4 (wish_at ws 4) in
    let f = due_noted e now views 5 (wish_at ws 5) in
    let g = due_noted f now views 6 (wish_at ws 6) in
    due_stays o g now views 7 (wish_at ws 7)
    (due_stays o f now views 6 (wish_at ws 6)
    (due_stays o e now views 5 (wish_at ws 5)
    (due_stays o d now views 4 (wish_at ws 4)
    (due_stays o c now views 3 (wish_at ws 3)
    (due_stays o b now views 2 (wish_at ws 2) (due_stays o a now views 1 (wish_at ws 1) (due_stays o o now views 0 (wish_at ws 0) refl)))))))

open_stays : (o : Office) (now : ℕ) (views : List View) (ws : List Wish) → logged_of (intended_open o now views ws).1 ≡ logged_of o
unfolding intended_open
open_stays o now views ws = all_due_stay (record o { wished = kept_in_all o now views ws }) now views (due_in_all (kept_in_all o now views ws) ws now)

intended_stays : (o : Office) (now : ℕ) (views : List View) → logged_of (intended o now views).1 ≡ logged_of o
intended_stays o now views = at (takes_letters o.opening)
  where
    at : (b : Bool) → logged_of (cond b (intended_open o now views (wishes (heard_of o now views))) (by_shards (λ shard. Nothing), o)).1 ≡ logged_of o
    at true = open_stays o now views (wishes (heard_of o now views))
    at false = refl

-- what is intended is made of what was heard
pub intents_told : (r : Result (List Wish) Memory) (o o' : Office) (now : ℕ) (views : List View) → IfOk r (λ due. ◌≡◌ {A = List Wish × Office} (due, o') (intended o now views)) → OnErr r (o' ≡ o) → (notes : List Entry) →
    StayTold o notes o' notes
intents_told (Ok due) o o' now views is err = stays_told o o' (ap (λ (m : List Wish × Office). logged_of m.1) is ∙ intended_stays o now views)
intents_told (Err memory) o o' now views is err = stays_told o o' (ap logged_of err)
