-- What stays told from call to call.
use Rattle.std.proofs.Common.{◌≡◌, ◌≤◌, ◌<◌, ◌+◌, ℕ, suc, List, [], ◌∷◌, ◌++◌, take, length, slice_index_or, All, Option, Result, Ok, Err, OnOk, refl, sym, ap, ◌∙◌, subst, arith}
use Rattle.std.proofs.Math.Seq.{take-suc}
use Rattle.std.proofs.lemmas.List.{take_all}
use Rattle.std.proofs.lemmas.List.Elements.{All-append, All-from_recursion}
use Rattle.hk_base.specs.declared.view.View.{View}
use Rattle.hk_fields.specs.declared.tickets.Ticket.{Ticket}
use Rattle.hk_inside.specs.declared.inquiry.Inquiry.{Inquiry}
use Rattle.hk_inside.specs.declared.board.Board.{Board}
use Rattle.hk_log.specs.declared.entry.Entry.{Entry}
use Rattle.hk_reports.specs.Reports.{ReportsState}
use Rattle.hk_office.specs.declared.office.Office.{Office}
use Rattle.hk_office.specs.declared.answer.OfficeStep.{OfficeStep}
use Rattle.hk_office.specs.Laws.{Logged, with_entry, with_entries, logged_of, LogTellsTheOffice}
use Rattle.hk_office.specs.Steps.{Made, inquired, board_heard, ticked}
use Rattle.hk_managing.specs.Turns.{StayTold}

pub told_more : (l : Logged) (xs ys : List Entry) → with_entries l (xs ++ ys) ≡ with_entries (with_entries l xs) ys
told_more l [] ys = refl
told_more l (x ∷ xs) ys = told_more (with_entry l x) xs ys

-- what a step logs stands behind what told the office before
pub step_told : (before after : Office) (had logged has : List Entry) → with_entries (logged_of before) logged ≡ logged_of after → has ≡ had ++ logged → StayTold before had after has
step_told before after had logged has law is l told =
    ap (λ (xs : List Entry). with_entries l xs) is ∙ told_more l had logged ∙ ap (λ (x : Logged). with_entries x logged) told ∙ law

-- nothing was logged, and what was heard is not told by the log
pub heard_alone : (before after : Office) (r : ReportsState) (had has : List Entry) → after ≡ record before { reports = r } → has ≡ had → StayTold before had after has
heard_alone before after r had has is same l told = ap (λ (xs : List Entry). with_entries l xs) same ∙ told ∙ sym (ap logged_of is)

pub nothing_told : (before after : Office) (had has : List Entry) → after ≡ before → has ≡ had → StayTold before had after has
nothing_told before after had has is same l told = ap (λ (xs : List Entry). with_entries l xs) same ∙ told ∙ sym (ap logged_of is)

pub asked : LogTellsTheOffice → (before after : Office) (now : ℕ) (views : List View) (told : List (Option Ticket)) (inquiry : Inquiry) (step : OfficeStep) (had has : List Entry) → ◌≡◌ {A = Made} (step, after) (inquired before now views told inquiry) →
    has ≡ had ++ step.logged → StayTold before had after has
asked law before after now views told inquiry step had has made is =
    step_told before after had step.logged has
    (subst (λ (m : Made). with_entries (logged_of before) m.0.logged ≡ logged_of m.1) (sym made) (law.0 before now views told inquiry)) is

pub told_by_board : LogTellsTheOffice → (before after : Office) (now place asked : ℕ) (b : Board) (logged had has : List Entry) → ◌≡◌ {A = List Entry × Office} (logged, after) (board_heard before now place asked b) → has ≡ had ++ logged →
    StayTold before had after has
told_by_board law before after now place asked b logged had has made is =
    step_told before after had logged has
    (subst (λ (m : List Entry × Office). with_entries (logged_of before) m.0 ≡ logged_of m.1) (sym made) (law.1 before now place asked b)) is

pub gone_by : LogTellsTheOffice → (before after : Office) (now : ℕ) (logged had has : List Entry) → ◌≡◌ {A = List Entry × Office} (logged, after) (ticked before now) → has ≡ had ++ logged → StayTold before had after has
gone_by law before after now logged had has made is =
    step_told before after had logged has (subst (λ (m : List Entry × Office). with_entries (logged_of before) m.0 ≡ logged_of m.1) (sym made) (law.2 before now)) is

pub then_told : (a b c : Office) (x y z : List Entry) → StayTold a x b y → StayTold b y c z → StayTold a x c z
then_told a b c x y z first second l told = second l (first l told)

-- a call that may fail
pub on_ok : {T E P Q : Type 0} (r : Result T E) → (P → Q) → OnOk r P → OnOk r Q
on_ok (Ok x) then at = then at
on_ok (Err e) then at = tt

-- ---- a list whose items are looked at one after the other
pub one_more : (P : Entry → Type 0) (xs : List Entry) (i : ℕ) (x : Entry) → i < length xs → x ≡ slice_index_or xs i x → All P (take i xs) → P x → All P (take (i + 1) xs)
one_more P xs i x low is front at =
    let one : i + 1 ≡ suc i = omega arith in
    let all : take (i + 1) xs ≡ take i xs ++ x ∷ [] = ap (λ (n : ℕ). take n xs) one ∙ (take-suc xs i x low ∙ ap (λ (y : Entry). take i xs ++ y ∷ []) (sym is)) in
    subst (All P) (sym all) (All-append P (take i xs) (x ∷ []) front (All-from_recursion P (x ∷ []) (at, tt)))

pub all_of_them : (P : Entry → Type 0) (xs : List Entry) (i : ℕ) → length xs ≤ i → All P (take i xs) → All P xs
all_of_them P xs i past front = subst (All P) (take_all i xs past) front
