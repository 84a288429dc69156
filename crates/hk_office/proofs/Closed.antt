-- Before the group is open.
use Rattle.std.proofs.Common.{◌≡◌, ℕ, Bool, true, false, cond, List, Option, refl}
use Rattle.hk_base.specs.declared.view.View.{View}
use Rattle.hk_fields.specs.declared.tickets.Ticket.{Ticket}
use Rattle.hk_inside.specs.declared.inquiry.Inquiry.{Inquiry}
use Rattle.hk_inside.specs.declared.inquiry.Inquiry.TheVariants as asks
use Rattle.hk_keeper.specs.declared.heard.Wish.{Wish}
use Rattle.hk_keeper.specs.declared.heard.Wish.TheVariants.{Nothing}
use Rattle.hk_keeper.specs.Table.{wishes}
use Rattle.hk_stage.specs.Opening.{takes_letters}
use Rattle.hk_office.specs.declared.office.Office.{Office}
use Rattle.hk_office.specs.declared.refusal.OfficeRefusal.TheVariants.{Wait}
use Rattle.hk_office.specs.Answers.{refused}
use Rattle.hk_office.specs.Seating.{heard_of, seat_given, number_claimed}
use Rattle.hk_office.specs.Leaving.{left}
use Rattle.hk_office.specs.Steps.{Made, stays, inquired}
use Rattle.hk_office.specs.Wishing.{by_shards, intended_open, intended}
use Rattle.hk_office.specs.Laws.{IsFound, NothingBeforeItIsOpen}

shut : (t : Bool) (o : Office) (made : Made) → t ≡ false → (cond t made (stays o (refused Wait))).1.roll ≡ o.roll
shut true o made e = absurd cc
shut false o made e = refl

binds : (o : Office) (now : ℕ) (views : List View) (told : List (Option Ticket)) (inquiry : Inquiry) → takes_letters o.opening ≡ false →
    (IsFound inquiry → ⊥) → (inquired o now views told inquiry).1.roll ≡ o.roll
binds o now views told (asks.Report report) e none = refl
binds o now views told (asks.Seat ticket) e none = shut (takes_letters o.opening) o (seat_given o now views ticket) e
binds o now views told (asks.Claim node ticket) e none = shut (takes_letters o.opening) o (number_claimed o now views told node ticket) e
binds o now views told (asks.Look f) e none = refl
binds o now views told (asks.Found f hosts) e none = absurd (none tt)
binds o now views told (asks.Leave leaver) e none = shut (takes_letters o.opening) o (left o now views leaver) e
binds o now views told asks.Status e none = refl

idle : (t : Bool) (x y : List Wish × Office) → t ≡ false → cond t x y ≡ y
idle true x y e = absurd cc
idle false x y e = refl

pub closed : NothingBeforeItIsOpen
closed = record {
  binds = binds;
  wishes = λ o now views e. idle (takes_letters o.opening) (intended_open o now views (wishes (heard_of o now views))) (by_shards (λ shard. Nothing), o) e;
}

busy : (t : Bool) (x y : List Wish × Office) → t ≡ true → cond t x y ≡ x
busy true x y e = refl
busy false x y e = absurd cc

pub when_open : (o : Office) (now : ℕ) (views : List View) → takes_letters o.opening ≡ true → intended o now views ≡ intended_open o now views (wishes (heard_of o now views))
when_open o now views e = busy (takes_letters o.opening) (intended_open o now views (wishes (heard_of o now views))) (by_shards (λ shard. Nothing), o) e
