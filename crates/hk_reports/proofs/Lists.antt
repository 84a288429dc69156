-- What is found in lists in which the new stands in front, and the old of the same key is gone.
use Rattle.std.proofs.Common.{◌≡◌, ◌<◌, ℕ, zero, suc, Bool, true, false, cond, not, ◌||◌, nat_eq, nat_lt, List, [], ◌∷◌, length, take, Option, None, Some}
use Rattle.std.proofs.Common.{refl, sym, ap, subst, ◌∙◌, arith}
use Rattle.std.specs.List.{filter, find, list_any}
use Rattle.std.specs.Cmp.Lexicographic.{pointwise}
use Rattle.std.proofs.lemmas.Bool.{true≢false, eqb-true, eq-eqb}
use Rattle.std.proofs.lemmas.List.{take_all}
use Rattle.std.proofs.lemmas.Slice.Eq.{bytes_eq-Decides}
use Rattle.hk_base.specs.declared.stamp.NodeId.{NodeId}
use Rattle.hk_fields.specs.declared.tickets.Ticket.{Ticket}
use Rattle.hk_reports.specs.declared.kept.Came.{Came}
use Rattle.hk_reports.specs.declared.kept.NumberKept.{NumberKept}
use Rattle.hk_reports.specs.declared.kept.SeatGiven.{SeatGiven}
use Rattle.hk_reports.specs.declared.reports.TheConstants.{MOST_PROCESSES, IN_VAIN_FOR}
use Rattle.hk_reports.specs.Reports.{age, same_ticket, is_of, is_at, is_number, number_or, number_of, with_ask, other_reports, other_seats, lately_at, is_lost_to, still_in_vain, with_report, AreOneEach}
use Rattle.hk_reports.specs.Laws.{ReportIsLast, OthersStay, OtherNumbersStay, VainForTenMinutes, ReadyIsNotInVain, LostIsNotInVain, OwnIsNotInVain}

own_bytes : (xs : List ℕ) → pointwise nat_eq xs xs ≡ true
own_bytes xs = (bytes_eq-Decides xs xs).1 refl

same_bytes : (xs ys : List ℕ) → pointwise nat_eq xs ys ≡ true → xs ≡ ys
same_bytes xs ys = (bytes_eq-Decides xs ys).0

-- ---- what is found behind the new one

module _ {X : Type 0} (test away : X → Bool) (apart : (x : X) → away x ≡ true → test x ≡ false) where
  found_kept : (xs : List X) → find test (filter (λ x. not (away x)) xs) ≡ find test xs
  found_kept [] = refl
  found_kept (x ∷ xs) = at (away x) refl (found_kept xs)
    where
      at : (b : Bool) → away x ≡ b → find test (filter (λ y. not (away y)) xs) ≡ find test xs →
          find test (cond (not b) (x ∷ filter (λ y. not (away y)) xs) (filter (λ y. not (away y)) xs)) ≡ cond (test x) (Some x) (find test xs)
      at true is e = rw (apart x is) e
      at false is e = ap (λ (o : Option X). cond (test x) (Some x) o) e

  -- the new one is another, and there is room for all
  found_behind : (x : X) (xs : List X) → test x ≡ false → length (filter (λ y. not (away y)) xs) < MOST_PROCESSES →
      find test (take MOST_PROCESSES (x ∷ filter (λ y. not (away y)) xs)) ≡ find test xs
  found_behind x xs other room =
      let all = take_all MOST_PROCESSES (x ∷ filter (λ y. not (away y)) xs) (omega (arith, room)) in
      let behind : find test (x ∷ filter (λ y. not (away y)) xs) ≡ find test (filter (λ y. not (away y)) xs) = rw other refl in
      ap (find test) all ∙ behind ∙ found_kept xs

-- ---- reports

pub report_is_last : ReportIsLast
report_is_last now report s = let own : same_ticket report.ticket report.ticket ≡ true = own_bytes report.ticket.0 in
    rw own (refl {a = Some (record { report = report; at = now })})

-- two tickets of which one is this and the other is not
tickets_apart : (a t u : List ℕ) → pointwise nat_eq a t ≡ true → pointwise nat_eq t u ≡ false → pointwise nat_eq a u ≡ false
tickets_apart a t u is other = subst (λ (x : List ℕ). pointwise nat_eq x u ≡ false) (sym (same_bytes a t is)) other

pub others_stay : OthersStay
others_stay now report s other room differs =
    found_behind (is_of other) (is_of report.ticket) (λ c is. tickets_apart c.report.ticket.0 report.ticket.0 other.0 is differs)
    (record { report = report; at = now }) s.came differs room

module _ {X : Type 0} (test : X → Bool) where
  none_filtered : (keep : X → Bool) (xs : List X) → find test xs ≡ None → find test (filter keep xs) ≡ None
  none_filtered keep [] e = refl
  none_filtered keep (x ∷ xs) e = at (test x) refl (keep x) e (none_filtered keep xs)
    where
      at : (b : Bool) → test x ≡ b → (k : Bool) → cond b (Some x) (find test xs) ≡ None → (find test xs ≡ None → find test (filter keep xs) ≡ None) →
          find test (cond k (x ∷ filter keep xs) (filter keep xs)) ≡ None
      at true is k e later = absurd cc
      at false is true e later = rw is (later e)
      at false is false e later = later e

  none_in_front : (n : ℕ) (xs : List X) → find test xs ≡ None → find test (take n xs) ≡ None
  none_in_front zero [] e = refl
  none_in_front zero (x ∷ xs) e = refl
  none_in_front (suc n) [] e = refl
  none_in_front (suc n) (x ∷ xs) e = at (test x) e (none_in_front n xs)
    where
      at : (b : Bool) → cond b (Some x) (find test xs) ≡ None → (find test xs ≡ None → find test (take n xs) ≡ None) → cond b (Some x) (find test (take n xs)) ≡ None
      at true e later = absurd cc
      at false e later = later e

  none_of_others : (xs : List X) → find test (filter (λ x. not (test x)) xs) ≡ None
  none_of_others [] = refl
  none_of_others (x ∷ xs) = at (test x) refl (none_of_others xs)
    where
      at : (b : Bool) → test x ≡ b → find test (filter (λ y. not (test y)) xs) ≡ None →
          find test (cond (not b) (x ∷ filter (λ y. not (test y)) xs) (filter (λ y. not (test y)) xs)) ≡ None
      at true is e = e
      at false is e = rw is e

each_filtered : (keep : Came → Bool) (xs : List Came) → AreOneEach xs → AreOneEach (filter keep xs)
each_filtered keep [] each = tt
each_filtered keep (x ∷ xs) each = at (keep x) (each_filtered keep xs each.1)
  where
    at : (k : Bool) → AreOneEach (filter keep xs) → AreOneEach (cond k (x ∷ filter keep xs) (filter keep xs))
    at true rest = (none_filtered (is_of x.report.ticket) keep xs each.0, rest)
    at false rest = rest

each_in_front : (n : ℕ) (xs : List Came) → AreOneEach xs → AreOneEach (take n xs)
each_in_front zero [] each = tt
each_in_front zero (x ∷ xs) each = tt
each_in_front (suc n) [] each = tt
each_in_front (suc n) (x ∷ xs) each = (none_in_front (is_of x.report.ticket) n xs each.0, each_in_front n xs each.1)

-- no ticket has two reports behind one more
pub one_each : (last : Came) (came : List Came) → AreOneEach came → AreOneEach (with_report last came)
one_each last came each =
    each_in_front MOST_PROCESSES (last ∷ other_reports last.report.ticket came)
    (none_of_others (is_of last.report.ticket) came, each_filtered (λ c. not (is_of last.report.ticket c)) came each)

-- ---- numbers

number_apart : (a n m : ℕ) → nat_eq a n ≡ true → nat_eq n m ≡ false → nat_eq a m ≡ false
number_apart a n m is other = subst (λ (x : ℕ). nat_eq x m ≡ false) (sym (eqb-true a n is)) other

pub number_found : (node : NodeId) (xs : List NumberKept) → (number_of node xs).node.0 ≡ node.0
number_found node [] = refl
number_found node (x ∷ xs) = at (nat_eq x.node.0 node.0) refl (number_found node xs)
  where
    at : (b : Bool) → nat_eq x.node.0 node.0 ≡ b → (number_of node xs).node.0 ≡ node.0 → (number_or node (cond b (Some x) (find (is_number node) xs))).node.0 ≡ node.0
    at true is e = eqb-true x.node.0 node.0 is
    at false is e = e

pub other_numbers_stay : OtherNumbersStay
other_numbers_stay now shard epoch node other s room differs =
    let mine : (number_of node s.numbers).node.0 ≡ node.0 = number_found node s.numbers in
    let another : nat_eq (number_of node s.numbers).node.0 other.0 ≡ false = subst (λ (n : ℕ). nat_eq n other.0 ≡ false) (sym mine) differs in
    let room' : length (filter (λ n. not (is_number (number_of node s.numbers).node n)) s.numbers) < MOST_PROCESSES =
    subst (λ (k : ℕ). length (filter (λ n. not (nat_eq n.node.0 k)) s.numbers) < MOST_PROCESSES) (sym mine) room in
    ap (number_or other) (found_behind (is_number other) (is_number (number_of node s.numbers).node) (λ x is. number_apart x.node.0 (number_of node s.numbers).node.0 other.0 is another)
    (with_ask shard (record { epoch = epoch; at = now }) (number_of node s.numbers)) s.numbers another room')

-- ---- addresses

module _ {X : Type 0} (test away : X → Bool) (apart : (x : X) → away x ≡ false → test x ≡ false) where
  none_kept : (xs : List X) → list_any test (filter (λ x. not (away x)) xs) ≡ false
  none_kept [] = refl
  none_kept (x ∷ xs) = at (away x) refl (none_kept xs)
    where
      at : (b : Bool) → away x ≡ b → list_any test (filter (λ y. not (away y)) xs) ≡ false →
          list_any test (cond (not b) (x ∷ filter (λ y. not (away y)) xs) (filter (λ y. not (away y)) xs)) ≡ false
      at true is e = e
      at false is e = rw (apart x is) e

none_taken : {X : Type 0} (test : X → Bool) (n : ℕ) (xs : List X) → list_any test xs ≡ false → list_any test (take n xs) ≡ false
none_taken test zero [] e = refl
none_taken test zero (x ∷ xs) e = refl
none_taken test (suc n) [] e = refl
none_taken test (suc n) (x ∷ xs) e = at (test x) e (none_taken test n xs)
  where
    at : (b : Bool) → (b || list_any test xs) ≡ false → (list_any test xs ≡ false → list_any test (take n xs) ≡ false) → (b || list_any test (take n xs)) ≡ false
    at true e later = absurd (true≢false e)
    at false e later = later e

seat_away : (inside : List ℕ) (ticket : Ticket) (later : ℕ) (s : SeatGiven) → is_at inside s ≡ false → lately_at later inside ticket s ≡ false
seat_away inside ticket later s e = rw e refl

or_nothing : (b c : Bool) → c ≡ false → (b || c) ≡ b
or_nothing true c e = refl
or_nothing false c e = e

-- of the seats that stand behind a new one none is at its address
none_behind : (inside : List ℕ) (ticket : Ticket) (later : ℕ) (seats : List SeatGiven) → list_any (lately_at later inside ticket) (take 63 (other_seats inside seats)) ≡ false
none_behind inside ticket later seats =
    none_taken (lately_at later inside ticket) 63 (other_seats inside seats) (none_kept (lately_at later inside ticket) (is_at inside) (seat_away inside ticket later) seats)

pub vain_for_ten_minutes : VainForTenMinutes
vain_for_ten_minutes now later node ticket other inside s differs =
    let own : pointwise nat_eq inside inside ≡ true = own_bytes inside in
    rw own (rw differs (or_nothing (nat_lt (age later now) IN_VAIN_FOR) (list_any (lately_at later inside other) (take 63 (other_seats inside s.seats))) (none_behind inside other later s.seats)))

pub ready_is_not_in_vain : ReadyIsNotInVain
ready_is_not_in_vain now later report ticket s ready =
    let seats : still_in_vain report s.seats ≡ other_seats report.inside s.seats = rw ready refl in
    ap (list_any (lately_at later report.inside ticket)) seats
    ∙ none_kept (lately_at later report.inside ticket) (is_at report.inside) (seat_away report.inside ticket later) s.seats

pub own_is_not_in_vain : OwnIsNotInVain
own_is_not_in_vain now later node ticket inside s =
    let here : pointwise nat_eq inside inside ≡ true = own_bytes inside in
    let own : same_ticket ticket ticket ≡ true = own_bytes ticket.0 in
    rw here (rw own (none_behind inside ticket later s.seats))

none_left : {X : Type 0} (test keep : X → Bool) (xs : List X) → list_any test xs ≡ false → list_any test (filter keep xs) ≡ false
none_left test keep [] e = refl
none_left test keep (x ∷ xs) e = at (test x) refl (keep x) e (none_left test keep xs)
  where
    at : (b : Bool) → test x ≡ b → (k : Bool) → (b || list_any test xs) ≡ false → (list_any test xs ≡ false → list_any test (filter keep xs) ≡ false) →
        list_any test (cond k (x ∷ filter keep xs) (filter keep xs)) ≡ false
    at true is k e later = absurd (true≢false e)
    at false is true e later = rw is (later e)
    at false is false e later = later e

pub lost_is_not_in_vain : LostIsNotInVain
lost_is_not_in_vain now behind later node ticket holder other inside s differs =
    let same : nat_eq node.0 node.0 ≡ true = eq-eqb node.0 node.0 refl in
    let left = none_left (lately_at later inside other) (λ seat. not (is_lost_to node holder seat)) (take 63 (other_seats inside s.seats)) (none_behind inside other later s.seats) in
    rw same (rw differs left)
