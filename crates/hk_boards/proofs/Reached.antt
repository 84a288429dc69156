-- Where a holder is reached.
use Rattle.std.proofs.Common.{◌≡◌, ◌≤◌, ◌⊎◌, ◌&&◌, ◌==◌, nat_lt, ℕ, zero, suc, Bool, true, false, cond, List, [], ◌∷◌, max, slice_get, Option, None, Some, refl, sym, ap, ◌∙◌, subst, inl, inr, arith}
use Rattle.std.specs.List.{find, fold, reduce, filter_map, cons_option}
use Rattle.std.specs.Option.{option_map, option_flatten}
use Rattle.std.proofs.lemmas.Bool.{false≢true, eqb-true, eq-eqb, ltb-true, ltb-false}
use Rattle.hk_base.specs.declared.stamp.NodeId.{NodeId}
use Rattle.hk_fields.specs.declared.tickets.Ticket.{Ticket}
use Rattle.hk_inside.specs.declared.board.BoardLine.{BoardLine}
use Rattle.hk_boards.specs.declared.heard.HeardBoard.{HeardBoard}
use Rattle.hk_boards.specs.Heard.{tells_address, reaches, line_of}
use Rattle.hk_boards.specs.Holders.{ByPlaces, holder, came_telling, last_told, is_told_at, newest_at, address_in, address_by, address_of}
use Rattle.hk_boards.specs.Laws.{TellsAddress, HoldersAreReached}
use Rattle.hk_boards.proofs.Tickets.{both_hold}

-- ---- the greatest of some numbers

above_first : (a : ℕ) (xs : List ℕ) → a ≤ fold max a xs
above_first a [] = omega arith
above_first a (x ∷ xs) = let more = above_first (max a x) xs in omega (arith, more)

either : (a n : ℕ) (b : Bool) → nat_lt a n ≡ b → (max a n ≡ a) ⊎ (max a n ≡ n)
either a n true e = let lt = ltb-true a n e in inr (omega (arith, lt))
either a n false e = let le = ltb-false a n e in inl (omega (arith, le))

module _ (F : Option HeardBoard → Option ℕ) where
  above_each : (a : ℕ) (boards : ByPlaces) (p : ℕ) (b : Option HeardBoard) (c : ℕ) → slice_get boards p ≡ Some b → F b ≡ Some c → c ≤ fold max a (filter_map F boards)
  above_each a [] p b c at is = absurd cc
  above_each a (x ∷ xs) p b c at is = by (F x) refl p at (λ n. above_each n xs)
    where
      here : (o : Option ℕ) → o ≡ Some c → c ≤ fold max a (cons_option o (filter_map F xs))
      here None e = absurd cc
      here (Some n) e = let same : n ≡ c = cc in let more = above_first (max a n) (filter_map F xs) in omega (arith, same, more)

      by : (o : Option ℕ) → F x ≡ o → (p : ℕ) → slice_get (x ∷ xs) p ≡ Some b →
          ((n : ℕ) (q : ℕ) (d : Option HeardBoard) (e : ℕ) → slice_get xs q ≡ Some d → F d ≡ Some e → e ≤ fold max n (filter_map F xs)) → c ≤ fold max a (cons_option o (filter_map F xs))
      by o was zero at later = let same : x ≡ b = cc in here o (sym was ∙ ap F same ∙ is)
      by None was (suc q) at later = later a q b c at is
      by (Some n) was (suc q) at later = later (max a n) q b c at is

  -- the greatest is no less than each of them
  pub above_all : (boards : ByPlaces) (m p : ℕ) (b : Option HeardBoard) (c : ℕ) → reduce max (filter_map F boards) ≡ Some m → slice_get boards p ≡ Some b → F b ≡ Some c → c ≤ m
  above_all [] m p b c most at is = absurd cc
  above_all (x ∷ xs) m p b c most at is = by (F x) refl p at most (above_all xs m)
    where
      by : (o : Option ℕ) → F x ≡ o → (p : ℕ) → slice_get (x ∷ xs) p ≡ Some b → reduce max (cons_option o (filter_map F xs)) ≡ Some m →
          ((q : ℕ) (d : Option HeardBoard) (e : ℕ) → reduce max (filter_map F xs) ≡ Some m → slice_get xs q ≡ Some d → F d ≡ Some e → e ≤ m) → c ≤ m
      by None was zero at most later = let same : x ≡ b = cc in let none : None ≡ Some c = sym was ∙ ap F same ∙ is in absurd cc
      by None was (suc q) at most later = later q b c most at is
      by (Some n) was zero at most later =
          let same : x ≡ b = cc in
          let one : Some n ≡ Some c = sym was ∙ ap F same ∙ is in
          let number : n ≡ c = cc in
          let greatest : fold max n (filter_map F xs) ≡ m = cc in
          let more = above_first n (filter_map F xs) in
          omega (arith, number, greatest, more)
      by (Some n) was (suc q) at most later = let greatest : fold max n (filter_map F xs) ≡ m = cc in let more = above_each n xs q b c at is in omega (arith, greatest, more)

  -- where one has a number there is a greatest
  pub one_is_greatest : (boards : ByPlaces) (p : ℕ) (b : Option HeardBoard) (c : ℕ) → slice_get boards p ≡ Some b → F b ≡ Some c → (m : ℕ) × (reduce max (filter_map F boards) ≡ Some m)
  one_is_greatest [] p b c at is = absurd cc
  one_is_greatest (x ∷ xs) p b c at is = by (F x) refl p at (λ q. one_is_greatest xs q b c)
    where
      by : (o : Option ℕ) → F x ≡ o → (p : ℕ) → slice_get (x ∷ xs) p ≡ Some b →
          ((q : ℕ) → slice_get xs q ≡ Some b → F b ≡ Some c → (m : ℕ) × (reduce max (filter_map F xs) ≡ Some m)) → (m : ℕ) × (reduce max (cons_option o (filter_map F xs)) ≡ Some m)
      by (Some n) was q at later = (fold max n (filter_map F xs), refl)
      by None was zero at later = let same : x ≡ b = cc in let none : None ≡ Some c = sym was ∙ ap F same ∙ is in absurd cc
      by None was (suc q) at later = later q at is

  pub record HasNumber (boards : ByPlaces) (m : ℕ) : Type 0 where
    pub place : ℕ
    pub board : Option HeardBoard
    pub stands : slice_get boards place ≡ Some board
    pub number : F board ≡ Some m

  behind : (x : Option HeardBoard) (xs : ByPlaces) (m : ℕ) → HasNumber xs m → HasNumber (x ∷ xs) m
  behind x xs m h = record { place = suc h.place; board = h.board; stands = h.stands; number = h.number }

  taken : (a : ℕ) (boards : ByPlaces) → (fold max a (filter_map F boards) ≡ a) ⊎ HasNumber boards (fold max a (filter_map F boards))
  taken a [] = inl refl
  taken a (x ∷ xs) = by (F x) refl (taken a xs) (λ n. taken n xs)
    where
      of : (n : ℕ) → F x ≡ Some n → (max a n ≡ a) ⊎ (max a n ≡ n) →
          (fold max (max a n) (filter_map F xs) ≡ max a n) ⊎ HasNumber xs (fold max (max a n) (filter_map F xs)) →
          (fold max (max a n) (filter_map F xs) ≡ a) ⊎ HasNumber (x ∷ xs) (fold max (max a n) (filter_map F xs))
      of n was which (inr later) = inr (behind x xs (fold max (max a n) (filter_map F xs)) later)
      of n was (inl first) (inl e) = inl (e ∙ first)
      of n was (inr own) (inl e) = inr (record { place = 0; board = x; stands = refl; number = was ∙ ap Some (sym (e ∙ own)) })

      by : (o : Option ℕ) → F x ≡ o → (fold max a (filter_map F xs) ≡ a) ⊎ HasNumber xs (fold max a (filter_map F xs)) →
          ((n : ℕ) → (fold max n (filter_map F xs) ≡ n) ⊎ HasNumber xs (fold max n (filter_map F xs))) →
          (fold max a (cons_option o (filter_map F xs)) ≡ a) ⊎ HasNumber (x ∷ xs) (fold max a (cons_option o (filter_map F xs)))
      by None was (inl e) later = inl e
      by None was (inr h) later = inr (behind x xs (fold max a (filter_map F xs)) h)
      by (Some n) was first later = of n was (either a n (nat_lt a n) refl) (later (max a n))

  -- the greatest is one of them
  pub greatest_stands : (boards : ByPlaces) (m : ℕ) → reduce max (filter_map F boards) ≡ Some m → HasNumber boards m
  greatest_stands [] m e = absurd cc
  greatest_stands (x ∷ xs) m e = by (F x) refl e (greatest_stands xs m)
    where
      own : (n : ℕ) → F x ≡ Some n → fold max n (filter_map F xs) ≡ m → (fold max n (filter_map F xs) ≡ n) ⊎ HasNumber xs (fold max n (filter_map F xs)) → HasNumber (x ∷ xs) m
      own n was same (inl first) = record { place = 0; board = x; stands = refl; number = was ∙ ap Some (sym first ∙ same) }
      own n was same (inr later) = subst (λ (k : ℕ). HasNumber (x ∷ xs) k) same (behind x xs (fold max n (filter_map F xs)) later)

      by : (o : Option ℕ) → F x ≡ o → reduce max (cons_option o (filter_map F xs)) ≡ Some m → (reduce max (filter_map F xs) ≡ Some m → HasNumber xs m) → HasNumber (x ∷ xs) m
      by None was e later = behind x xs m (later e)
      by (Some n) was e later = let same : fold max n (filter_map F xs) ≡ m = cc in own n was same (taken n xs)

-- ---- what is found

pub record IsFound (test : Option HeardBoard → Bool) (boards : ByPlaces) : Type 0 where
  pub place : ℕ
  pub board : Option HeardBoard
  pub found : find test boards ≡ Some board
  pub stands : slice_get boards place ≡ Some board
  pub passes : test board ≡ true

one_is_found : (test : Option HeardBoard → Bool) (boards : ByPlaces) (p : ℕ) (b : Option HeardBoard) → slice_get boards p ≡ Some b → test b ≡ true → IsFound test boards
one_is_found test [] p b at is = absurd cc
one_is_found test (x ∷ xs) p b at is = by (test x) refl p at (λ q. one_is_found test xs q b)
  where
    later : test x ≡ false → IsFound test xs → IsFound test (x ∷ xs)
    later was f = record { place = suc f.place; board = f.board; found = ap (λ (v : Bool). cond v (Some x) (find test xs)) was ∙ f.found; stands = f.stands; passes = f.passes }

    by : (v : Bool) → test x ≡ v → (p : ℕ) → slice_get (x ∷ xs) p ≡ Some b → ((q : ℕ) → slice_get xs q ≡ Some b → test b ≡ true → IsFound test xs) → IsFound test (x ∷ xs)
    by true was q at more = record { place = 0; board = x; found = ap (λ (v : Bool). cond v (Some x) (find test xs)) was; stands = refl; passes = was }
    by false was zero at more = let same : x ≡ b = cc in absurd (false≢true (sym was ∙ ap test same ∙ is))
    by false was (suc q) at more = later was (more q at is)

-- ---- its address

module _ (founding : ℕ) (node : NodeId) (ticket : Ticket) (boards : ByPlaces) where
  comes : (h : HeardBoard) → reaches founding node ticket (Some h) ≡ true → came_telling founding node ticket (Some h) ≡ Some h.came
  comes h e = ap (λ (v : Bool). cond v (Some h.came) None) e

  came_is : (b : Option HeardBoard) (m : ℕ) → came_telling founding node ticket b ≡ Some m → is_told_at founding node ticket m b ≡ true
  came_is None m e = absurd cc
  came_is (Some h) m e = by (reaches founding node ticket (Some h)) e
    where
      by : (v : Bool) → cond v (Some h.came) None ≡ Some m → (v && (h.came == m)) ≡ true
      by true e = let same : h.came ≡ m = cc in eq-eqb h.came m same
      by false e = absurd cc

  address_stands : (h : HeardBoard) → reaches founding node ticket (Some h) ≡ true → (text : List ℕ) × (address_in founding node (Some h) ≡ Some text)
  address_stands h e = by (line_of founding node h) e
    where
      by : (x : Option BoardLine) → tells_address ticket x ≡ true → (text : List ℕ) × (option_map (λ (line : BoardLine). line.inside) x ≡ Some text)
      by None e = absurd cc
      by (Some line) e = (line.inside, refl)

  module _ (held : holder founding node boards ≡ Some ticket) where
    abbrev Reached : Type 0
    Reached = (text : List ℕ) × (address_of founding node boards ≡ Some text) × TellsAddress founding node ticket boards text

    found_reached : (m : ℕ) → last_told founding node ticket boards ≡ Some m → IsFound (is_told_at founding node ticket m) boards → Reached
    found_reached m last f = by f.board f.found f.stands f.passes
      where
        whole : (h : HeardBoard) → find (is_told_at founding node ticket m) boards ≡ Some (Some h) → slice_get boards f.place ≡ Some (Some h) → reaches founding node ticket (Some h) ≡ true → h.came ≡ m →
            (text : List ℕ) × (address_in founding node (Some h) ≡ Some text) → Reached
        whole h found stands tells_it came (text, is) = (
          text,
          ap (λ (x : Option Ticket). address_by x founding node boards) held ∙
              ap (λ (x : Option ℕ). address_in founding node (newest_at x founding node ticket boards)) last ∙
              ap (λ (x : Option (Option HeardBoard)). address_in founding node (option_flatten x)) found ∙ is,
          record {
            place = f.place;
            board = h;
            came = stands;
            tells_it = tells_it;
            newest = λ other later there tells_too. subst (λ (n : ℕ). later.came ≤ n) (sym came)
                (above_all (came_telling founding node ticket) boards m other (Some later) later.came last there (comes later tells_too));
            address = is;
          },
        )

        by : (b : Option HeardBoard) → find (is_told_at founding node ticket m) boards ≡ Some b → slice_get boards f.place ≡ Some b → is_told_at founding node ticket m b ≡ true → Reached
        by None found stands passes = absurd cc
        by (Some h) found stands passes =
            let parts = both_hold (reaches founding node ticket (Some h)) (h.came == m) passes in
            whole h found stands parts.0 (eqb-true h.came m parts.1) (address_stands h parts.0)

    last_reached : (m : ℕ) × (last_told founding node ticket boards ≡ Some m) → Reached
    last_reached (m, last) =
        let it = greatest_stands (came_telling founding node ticket) boards m last in
        found_reached m last (one_is_found (is_told_at founding node ticket m) boards it.place it.board it.stands (came_is it.board m it.number))

pub are_reached : HoldersAreReached
are_reached founding node ticket boards held place board stands tells_it =
    last_reached founding node ticket boards held
    (one_is_greatest (came_telling founding node ticket) boards place (Some board) board.came stands (comes founding node ticket boards board tells_it))
