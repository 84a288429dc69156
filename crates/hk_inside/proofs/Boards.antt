-- That the parts of responses are read exactly.
use Rattle.std.proofs.Common.{true≢false, ◌≡◌, ℕ, zero, suc, ◌≤◌, ◌<◌, Bool, true, false, eqb, List, ◌∷◌, ◌++◌, refl, ap, arith}
use Rattle.std.specs.Int.{w16, to_be_bytes}
use Rattle.std.proofs.lemmas.Bool.{eqb-true, eqb-false}
use Rattle.hk_base.specs.declared.stamp.NodeId.{NodeId}
use Rattle.hk_fields.specs.Fields.{chain, made, within, byte_at, number_at}
use Rattle.hk_fields.proofs.Exact.{IsExact, IsBetween, IsByte, byte_text, IsBelow16, chain_exact, made_exact, cond_exact, byte_within_exact}
use Rattle.hk_inside.specs.declared.board.Stage.{Stage}
use Rattle.hk_inside.specs.declared.board.Party.{Party}
use Rattle.hk_inside.specs.declared.board.Party.TheVariants as parties
use Rattle.hk_inside.specs.declared.board.Mark.{Mark}
use Rattle.hk_inside.specs.declared.board.Mark.TheVariants as marks
use Rattle.hk_inside.specs.declared.board.BoardLine.{BoardLine}
use Rattle.hk_inside.specs.declared.board.Board.{Board}
use Rattle.hk_fields.specs.declared.hosts.HostTickets.{HostTickets}
use Rattle.hk_inside.specs.declared.response.ManagerState.{ManagerState}
use Rattle.hk_inside.specs.Parts.{state_bytes, IsStateValue, party_bytes, IsPartyValue, IsPartyInRange, mark_byte, flag_byte, line_bytes, board_bytes, IsLineValue, IsBoardValue, IsLineInRange, IsBoardInRange}
use Rattle.hk_inside.specs.Reading.{node_at, party_of, party_at, mark_of, flag_of, line_of, line_at, board_of, board_at, state_of, state_at}
use Rattle.hk_inside.proofs.Parts.{Part, before, makes, number16, number32, number64, byte_from, number16_from, ticket, text, AreCounted, counted, split_all, join_all, Any, one_of, stage, node, host}

-- ---- parties

abbrev number_text : Party → List ℕ
number_text (parties.Node node) = to_be_bytes w16 node.0
number_text (parties.Manager place) = to_be_bytes w16 place
number_text parties.Neither = to_be_bytes w16 0

abbrev OfClass : ℕ → Party → Type 0
OfClass class (parties.Node node) = (class ≡ 0) × IsBelow16 node.0
OfClass class (parties.Manager place) = (class ≡ 1) × IsBetween IsBelow16 0 8 place
OfClass class parties.Neither = (class ≡ 0 → true ≡ false) × (class ≡ 1 → true ≡ false)

other_class : (class n : ℕ) → eqb class n ≡ false → class ≡ n → true ≡ false
other_class class n h e = absurd (eqb-false class n h e)

node_back : (class : ℕ) → class ≡ 0 → (party : Party) → OfClass class party → (n : NodeId) × IsBelow16 n.0 × (parties.Node n ≡ party)
node_back class h (parties.Node node) f = (node, f.1, refl)
node_back class h (parties.Manager place) f = absurd (omega (arith, h, f.0))
node_back class h parties.Neither f = absurd (true≢false (f.0 h))

manager_back : (class : ℕ) → class ≡ 1 → (party : Party) → OfClass class party → (n : ℕ) × IsBetween IsBelow16 0 8 n × (parties.Manager n ≡ party)
manager_back class h (parties.Node node) f = absurd (omega (arith, h, f.0))
manager_back class h (parties.Manager place) f = (place, f.1, refl)
manager_back class h parties.Neither f = absurd (true≢false (f.1 h))

neither_back : (class : ℕ) → (class ≡ 0 → true ≡ false) → (class ≡ 1 → true ≡ false) → (party : Party) → OfClass class party → (n : ℕ) × IsBetween IsBelow16 0 0 n × (parties.Neither ≡ party)
neither_back class g h (parties.Node node) f = absurd (true≢false (g f.0))
neither_back class g h (parties.Manager place) f = absurd (true≢false (h f.0))
neither_back class g h parties.Neither f = (0, record { fits = omega arith; low = omega arith; high = omega arith }, refl)

nothing : (n : ℕ) → n ≤ 0 → to_be_bytes w16 n ≡ to_be_bytes w16 0
nothing n le =
    let e : n ≡ 0 = omega (arith, le) in
    ap (to_be_bytes w16) e

party_of_exact : (class : ℕ) → IsExact number_text (OfClass class) (party_of class)
unfolding party_of
party_of_exact class = cond_exact number_text (OfClass class) (made parties.Node node_at) _ (eqb class 0)
    (λ h. (makes parties.Node node number_text (OfClass class) (record { forth = λ n f. (refl, (eqb-true class 0 h, f)); back = node_back class (eqb-true class 0 h) })).exact)
    (λ g. cond_exact number_text (OfClass class) (made parties.Manager (within 0 8 (number_at w16))) (made (λ n. parties.Neither) (within 0 0 (number_at w16))) (eqb class 1)
    (λ h. (makes parties.Manager (number16_from 0 8) number_text (OfClass class) (record { forth = λ n f. (refl, (eqb-true class 1 h, f)); back = manager_back class (eqb-true class 1 h) })).exact)
    (λ h. (makes (λ n. parties.Neither) (number16_from 0 0) number_text (OfClass class) (record { forth = λ n f. (nothing n f.high, (other_class class 0 g, other_class class 1 h)); back = neither_back class (other_class class 0 g) (other_class class 1 h) })).exact))

abbrev IsParty : Party → Type 0
IsParty p = IsPartyValue p × IsPartyInRange p

party_forth : (class : ℕ) (party : Party) → class ≤ 2 → OfClass class party → (class ∷ number_text party ≡ party_bytes party) × IsParty party
party_forth class (parties.Node node) le f = (ap (λ (c : ℕ). c ∷ to_be_bytes w16 node.0) f.0, (f.1, tt))
party_forth class (parties.Manager place) le f = (ap (λ (c : ℕ). c ∷ to_be_bytes w16 place) f.0, (omega (arith, f.1.high), omega (arith, f.1.high)))
party_forth zero parties.Neither le f = absurd (true≢false (f.0 refl))
party_forth (suc zero) parties.Neither le f = absurd (true≢false (f.1 refl))
party_forth (suc (suc zero)) parties.Neither le f = (refl, (tt, tt))
party_forth (suc (suc (suc class))) parties.Neither le f = absurd (omega (arith, le))

party_back : (party : Party) → IsParty party → (p : ℕ × Party) × (IsBetween IsByte 0 2 p.0 × OfClass p.0 p.1) × (p.1 ≡ party)
party_back (parties.Node node) f = ((0, parties.Node node), (record { fits = omega arith; low = omega arith; high = omega arith }, (refl, f.0)), refl)
party_back (parties.Manager place) f = ((1, parties.Manager place), (record { fits = omega arith; low = omega arith; high = omega arith }, (refl, record { fits = omega (arith, f.1); low = omega arith; high = omega (arith, f.1) })), refl)
party_back parties.Neither f = ((2, parties.Neither), (record { fits = omega arith; low = omega arith; high = omega arith }, ((λ e. absurd (omega (arith, e))), (λ e. absurd (omega (arith, e))))), refl)

party_exact : IsExact party_bytes IsParty party_at
unfolding party_at
party_exact = made_exact (λ p. p.1) (λ (p : ℕ × Party). byte_text p.0 ++ number_text p.1) (λ (p : ℕ × Party). IsBetween IsByte 0 2 p.0 × OfClass p.0 p.1) (chain (within 0 2 byte_at) party_of) party_bytes IsParty
    (chain_exact byte_text (IsBetween IsByte 0 2) (within 0 2 byte_at) (λ n. number_text) OfClass party_of (byte_within_exact 0 2) party_of_exact)
    (record { forth = λ p f. party_forth p.0 p.1 f.0.high f.1; back = party_back })

abbrev party : Part Party
party = record { text = party_bytes; Fits = IsParty; read = party_at; exact = party_exact }

-- ---- marks and flags

mark_forth : (n : ℕ) → n ≤ 3 → n ≡ mark_byte (mark_of n)
unfolding mark_of
mark_forth zero le = refl
mark_forth (suc zero) le = refl
mark_forth (suc (suc zero)) le = refl
mark_forth (suc (suc (suc zero))) le = refl
mark_forth (suc (suc (suc (suc n)))) le = absurd (omega (arith, le))

mark_below : (m : Mark) → mark_byte m ≤ 3
mark_below marks.Bound = omega arith
mark_below marks.Member = omega arith
mark_below marks.ToLeave = omega arith
mark_below marks.Out = omega arith

mark_back : (m : Mark) → mark_of (mark_byte m) ≡ m
unfolding mark_of
mark_back marks.Bound = refl
mark_back marks.Member = refl
mark_back marks.ToLeave = refl
mark_back marks.Out = refl

abbrev mark : Part Mark
mark = makes mark_of (byte_from 0 3) (λ m. byte_text (mark_byte m)) Any (one_of mark_of mark_byte 3 (omega arith) mark_forth mark_below mark_back)

flag_forth : (n : ℕ) → n ≤ 1 → n ≡ flag_byte (flag_of n)
unfolding flag_of
flag_forth zero le = refl
flag_forth (suc zero) le = refl
flag_forth (suc (suc n)) le = absurd (omega (arith, le))

flag_below : (b : Bool) → flag_byte b ≤ 1
flag_below false = omega arith
flag_below true = omega arith

flag_back : (b : Bool) → flag_of (flag_byte b) ≡ b
unfolding flag_of
flag_back false = refl
flag_back true = refl

abbrev flag : Part Bool
flag = makes flag_of (byte_from 0 1) (λ b. byte_text (flag_byte b)) Any (one_of flag_of flag_byte 1 (omega arith) flag_forth flag_below flag_back)

-- ---- boards

abbrev IsLine : BoardLine → Type 0
IsLine l = IsLineValue l × IsLineInRange l

line_exact : IsExact line_bytes IsLine line_at
unfolding line_at
line_exact = (makes line_of (before party (before ticket (before mark (before flag text)))) line_bytes IsLine
    (record {
      forth = λ p f. (refl, (record { party = f.0.0; ticket = f.1.0 }, record { party = f.0.1; inside = f.1.1.1.1 }));
      back = λ l f. ((l.party, (l.ticket, (l.mark, (l.ready, l.inside)))), ((f.0.party, f.1.party), (f.0.ticket, (tt, (tt, f.1.inside)))), refl);
    })).exact

abbrev line : Part BoardLine
line = record { text = line_bytes; Fits = IsLine; read = line_at; exact = line_exact }

pub record IsBoard (b : Board) : Type 0 where
  pub value : IsBoardValue b
  pub range : IsBoardInRange b

abbrev board_parts : Part (ℕ × (Stage × (ℕ × (ℕ × List BoardLine))))
board_parts = before number64 (before stage (before number64 (before number16 (counted 0 255 line))))

board_forth : (p : ℕ × (Stage × (ℕ × (ℕ × List BoardLine)))) → board_parts.Fits p → (board_parts.text p ≡ board_bytes (board_of p)) × IsBoard (board_of p)
board_forth p f =
    let lines = f.1.1.1.1 in
    let each = split_all IsLineValue IsLineInRange p.1.1.1.1 lines.each in
    (refl, record { value = record { founding = f.0; records = f.1.1.0; managers_up = f.1.1.1.0; lines = each.0 }; range = record { few = lines.short; lines = each.1 } })

board_back : (b : Board) → IsBoard b → (p : ℕ × (Stage × (ℕ × (ℕ × List BoardLine)))) × board_parts.Fits p × (board_of p ≡ b)
board_back b f =
    let v = f.value in
    let g = f.range in
    let lines : AreCounted IsLine 0 255 b.lines = record { low = omega arith; high = omega (arith, g.few); short = g.few; each = join_all IsLineValue IsLineInRange b.lines v.lines g.lines } in
    ((b.founding, (b.stage, (b.records, (b.managers_up, b.lines)))), (v.founding, (tt, (v.records, (v.managers_up, lines)))), refl)

pub board_exact : IsExact board_bytes IsBoard board_at
unfolding board_at
board_exact = (makes board_of board_parts board_bytes IsBoard (record { forth = board_forth; back = board_back })).exact

-- ---- how a manager stands

pub record IsState (s : ManagerState) : Type 0 where
  pub value : IsStateValue s
  pub place : s.place < 9

abbrev state_parts : Part (ℕ × (Stage × (ℕ × (HostTickets × (ℕ × ℕ)))))
state_parts = before number64 (before stage (before (byte_from 0 8) (before host (before number32 number32))))

state_forth : (p : ℕ × (Stage × (ℕ × (HostTickets × (ℕ × ℕ))))) → state_parts.Fits p → (state_parts.text p ≡ state_bytes (state_of p)) × IsState (state_of p)
state_forth p f = (refl, record { value = record { founding = f.0; tickets = f.1.1.1.0; lease = f.1.1.1.1.0; skew = f.1.1.1.1.1 }; place = omega (arith, f.1.1.0.high) })

state_back : (s : ManagerState) → IsState s → (p : ℕ × (Stage × (ℕ × (HostTickets × (ℕ × ℕ))))) × state_parts.Fits p × (state_of p ≡ s)
state_back s f =
    let v = f.value in
    ((s.founding, (s.stage, (s.place, (s.tickets, (s.lease, s.skew))))), (v.founding, (tt, (record { fits = omega (arith, f.place); low = omega arith; high = omega (arith, f.place) }, (v.tickets, (v.lease, v.skew))))), refl)

pub state_exact : IsExact state_bytes IsState state_at
unfolding state_at
state_exact = (makes state_of state_parts state_bytes IsState (record { forth = state_forth; back = state_back })).exact

abbrev pub board : Part Board
board = record { text = board_bytes; Fits = IsBoard; read = board_at; exact = board_exact }

abbrev pub state : Part ManagerState
state = record { text = state_bytes; Fits = IsState; read = state_at; exact = state_exact }
