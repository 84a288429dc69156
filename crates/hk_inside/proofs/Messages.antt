-- That messages are read exactly.
use Rattle.std.proofs.Common.{true≢false, ◌≡◌, ℕ, suc, Bool, true, false, cond, eqb, List, [], ◌∷◌, ◌++◌, length, Result, Ok, Err, refl, sym, ap, subst, ◌∙◌, arith}
use Rattle.std.proofs.lemmas.Bool.{eqb-true}
use Rattle.std.proofs.lemmas.List.{append-nil, nil_from_length}
use Rattle.std.proofs.lemmas.List.Elements.{All-from_recursion, recursion_from_All}
use Rattle.hk_base.specs.declared.stamp.NodeId.{NodeId}
use Rattle.hk_fields.specs.declared.tickets.Ticket.{Ticket}
use Rattle.hk_fields.specs.declared.fault.FieldFault.{FieldFault}
use Rattle.hk_fields.specs.declared.fault.FieldFault.TheVariants.{Malformed}
use Rattle.hk_fields.specs.Fields.{◌>>=◌, both, made, within, byte_at, ticket_at, IsTicket, IsHostValue}
use Rattle.hk_fields.proofs.Exact.{IsBytes, bind_ok, passed, ok_is, IsExact, IsBetween, IsByte, IsBelow16, nothing_exact, same_exact, cond_exact, byte_within_exact}
use Rattle.hk_fields.specs.declared.hosts.HostTickets.{HostTickets}
use Rattle.hk_inside.specs.declared.inquiry.Inquiry.{Inquiry}
use Rattle.hk_inside.specs.declared.inquiry.Inquiry.TheVariants as asks
use Rattle.hk_inside.specs.declared.inquiry.Leaver.{Leaver}
use Rattle.hk_inside.specs.declared.report.Report.{Report}
use Rattle.hk_inside.specs.declared.board.Board.{Board}
use Rattle.hk_inside.specs.declared.response.ManagerState.{ManagerState}
use Rattle.hk_inside.specs.declared.response.Response.{Response}
use Rattle.hk_inside.specs.declared.response.Response.TheVariants as answers
use Rattle.hk_inside.specs.Messages.{inquiry_kind, inquiry_fields, inquiry_bytes, IsInquiry, response_kind, response_fields, response_bytes, IsResponseValue, IsResponseInRange}
use Rattle.hk_inside.specs.Reading.{node_at, founding_at, report_at, leaver_at, claim_at, found_at, inquiry_of, board_at, state_at, all_bytes, status_at, no_at, response_of, all_of, inquiry_at, response_at}
use Rattle.hk_inside.proofs.Parts.{Part, before, makes, ticket, node, founding, host, AreCounted, counted, report, leaver}
use Rattle.hk_inside.proofs.Boards.{board, state}

-- ---- bytes that are a message and nothing else

pub record IsBody {A : Type 0} (text : A → List ℕ) (Fits : A → Type 0) (read : List ℕ → Result A FieldFault) : Type 0 where
  pub takes : (bytes : List ℕ) (a : A) → IsBytes bytes → read bytes ≡ Ok a → (bytes ≡ text a) × Fits a
  pub again : (a : A) → Fits a → read (text a) ≡ Ok a

pub whole_body : {A : Type 0} (text : A → List ℕ) (Fits : A → Type 0) (read : List ℕ → Result (A × List ℕ) FieldFault) → IsExact text Fits read → IsBody text Fits (λ bytes. all_of (read bytes))
whole_body {A} text Fits read e = record {
  takes = λ bytes a fits h.
      (let x = bind_ok (read bytes) (λ y. cond (eqb (length y.1) 0) (Ok y.0) (Err Malformed)) a h in
      let p = passed (eqb (length x.0.1) 0) Malformed x.0.0 a x.2 in
      let t = e.takes bytes x.0.0 x.0.1 fits x.1 in
      let none : x.0.1 ≡ [] = nil_from_length x.0.1 (eqb-true (length x.0.1) 0 p.0) in
      let all : bytes ≡ text x.0.0 = t.0.parts ∙ ap (λ (z : List ℕ). text x.0.0 ++ z) none ∙ append-nil (text x.0.0) in
      subst (λ (b : A). (bytes ≡ text b) × Fits b) p.1 (all, t.1));
  again = λ a f. ap all_of (ap read (sym (append-nil (text a))) ∙ e.again a [] f);
}

-- the first byte tells which reader
pub kinded : {A : Type 0} (kind : A → ℕ) (fields : A → List ℕ) (Fits : A → Type 0) (read : ℕ → List ℕ → Result (A × List ℕ) FieldFault)
    → ((k : ℕ) → IsBody fields (λ a. Fits a × (kind a ≡ k)) (λ bytes. all_of (read k bytes))) → IsBody (λ a. kind a ∷ fields a) Fits (λ bytes. byte_at bytes >>= λ k. all_of (read k.0 k.1))
kinded {A} kind fields Fits read e = record { takes = takes; again = λ a f. (e (kind a)).again a (f, refl) }
  where
    takes : (bytes : List ℕ) (a : A) → IsBytes bytes → (byte_at bytes >>= λ k. all_of (read k.0 k.1)) ≡ Ok a → (bytes ≡ kind a ∷ fields a) × Fits a
    takes [] a fits h = absurd cc
    takes (b ∷ rest) a fits h =
        let t = (e b).takes rest a (λ i. fits (suc i)) h in
        (ap (λ (z : List ℕ). b ∷ z) t.0 ∙ ap (λ (n : ℕ). n ∷ fields a) (sym t.1.1), t.1.0)

pub body_cond : {A : Type 0} (text : A → List ℕ) (Fits : A → Type 0) (read read' : List ℕ → Result (A × List ℕ) FieldFault) (b : Bool)
    → (b ≡ true → IsBody text Fits (λ bytes. all_of (read bytes))) → (b ≡ false → IsBody text Fits (λ bytes. all_of (read' bytes))) → IsBody text Fits (λ bytes. all_of (cond b (read bytes) (read' bytes)))
body_cond text Fits read read' true yes' no' = yes' refl
body_cond text Fits read read' false yes' no' = no' refl

-- all that there is
all_body : IsBody (λ (t : List ℕ). t) (λ (t : List ℕ). Unit {0}) (λ bytes. all_of (all_bytes bytes))
all_body = record { takes = λ bytes a fits h. (ok_is bytes a h, tt); again = λ a f. refl }

other : (kind n : ℕ) → eqb n n ≡ true → n ≡ kind → eqb kind n ≡ false → true ≡ false
other kind n itself e h = sym itself ∙ ap (λ (m : ℕ). eqb m n) e ∙ h

-- ---- inquiries

abbrev pub OfKind : ℕ → Inquiry → Type 0
OfKind n inquiry = IsInquiry inquiry × (inquiry_kind inquiry ≡ n)

report_back : (m : Inquiry) → OfKind 1 m → (r : Report) × report.Fits r × (asks.Report r ≡ m)
report_back (asks.Report r) h = (r, record { value = h.0.value; range = h.0.range }, refl)
report_back (asks.Seat t) h = absurd (omega (arith, h.1))
report_back (asks.Claim n t) h = absurd (omega (arith, h.1))
report_back (asks.Look n) h = absurd (omega (arith, h.1))
report_back (asks.Found n hosts) h = absurd (omega (arith, h.1))
report_back (asks.Leave l) h = absurd (omega (arith, h.1))
report_back asks.Status h = absurd (omega (arith, h.1))

report_exact : IsExact inquiry_fields (OfKind 1) (made asks.Report report_at)
report_exact = (makes asks.Report report inquiry_fields (OfKind 1) (record { forth = λ r f. (refl, (record { value = f.value; range = f.range }, refl)); back = report_back })).exact

seat_back : (m : Inquiry) → OfKind 2 m → (t : Ticket) × IsTicket t × (asks.Seat t ≡ m)
seat_back (asks.Report r) h = absurd (omega (arith, h.1))
seat_back (asks.Seat t) h = (t, h.0.value, refl)
seat_back (asks.Claim n t) h = absurd (omega (arith, h.1))
seat_back (asks.Look n) h = absurd (omega (arith, h.1))
seat_back (asks.Found n hosts) h = absurd (omega (arith, h.1))
seat_back (asks.Leave l) h = absurd (omega (arith, h.1))
seat_back asks.Status h = absurd (omega (arith, h.1))

seat_exact : IsExact inquiry_fields (OfKind 2) (made asks.Seat ticket_at)
seat_exact = (makes asks.Seat ticket inquiry_fields (OfKind 2) (record { forth = λ t f. (refl, (record { value = f; range = tt }, refl)); back = seat_back })).exact

abbrev claim_of : NodeId × Ticket → Inquiry
claim_of p = asks.Claim p.0 p.1

claim_back : (m : Inquiry) → OfKind 3 m → (p : NodeId × Ticket) × (IsBelow16 p.0.0 × IsTicket p.1) × (claim_of p ≡ m)
claim_back (asks.Report r) h = absurd (omega (arith, h.1))
claim_back (asks.Seat t) h = absurd (omega (arith, h.1))
claim_back (asks.Claim n t) h = ((n, t), h.0.value, refl)
claim_back (asks.Look n) h = absurd (omega (arith, h.1))
claim_back (asks.Found n hosts) h = absurd (omega (arith, h.1))
claim_back (asks.Leave l) h = absurd (omega (arith, h.1))
claim_back asks.Status h = absurd (omega (arith, h.1))

claim_exact : IsExact inquiry_fields (OfKind 3) claim_at
unfolding claim_at
claim_exact = (makes claim_of (before node ticket) inquiry_fields (OfKind 3) (record { forth = λ p f. (refl, (record { value = f; range = tt }, refl)); back = claim_back })).exact

look_back : (m : Inquiry) → OfKind 4 m → (n : ℕ) × founding.Fits n × (asks.Look n ≡ m)
look_back (asks.Report r) h = absurd (omega (arith, h.1))
look_back (asks.Seat t) h = absurd (omega (arith, h.1))
look_back (asks.Claim n t) h = absurd (omega (arith, h.1))
look_back (asks.Look n) h = (n, record { fits = h.0.value; low = h.0.range; high = omega (arith, h.0.value) }, refl)
look_back (asks.Found n hosts) h = absurd (omega (arith, h.1))
look_back (asks.Leave l) h = absurd (omega (arith, h.1))
look_back asks.Status h = absurd (omega (arith, h.1))

look_exact : IsExact inquiry_fields (OfKind 4) (made asks.Look founding_at)
look_exact = (makes asks.Look founding inquiry_fields (OfKind 4) (record { forth = λ n f. (refl, (record { value = f.fits; range = f.low }, refl)); back = look_back })).exact

abbrev found_of : ℕ × List HostTickets → Inquiry
found_of p = asks.Found p.0 p.1

abbrev found_parts : Part (ℕ × List HostTickets)
found_parts = before founding (counted 1 9 host)

are_hosts : (hosts : List HostTickets) (n : ℕ) → IsInquiry (asks.Found n hosts) → AreCounted IsHostValue 1 9 hosts
are_hosts hosts n h = record { low = h.range.1; high = h.range.2; short = omega (arith, h.range.2); each = recursion_from_All IsHostValue hosts h.value.1 }

found_back : (m : Inquiry) → OfKind 5 m → (p : ℕ × List HostTickets) × found_parts.Fits p × (found_of p ≡ m)
found_back (asks.Report r) h = absurd (omega (arith, h.1))
found_back (asks.Seat t) h = absurd (omega (arith, h.1))
found_back (asks.Claim n t) h = absurd (omega (arith, h.1))
found_back (asks.Look n) h = absurd (omega (arith, h.1))
found_back (asks.Found n hosts) h = ((n, hosts), (record { fits = h.0.value.0; low = h.0.range.0; high = omega (arith, h.0.value.0) }, are_hosts hosts n h.0), refl)
found_back (asks.Leave l) h = absurd (omega (arith, h.1))
found_back asks.Status h = absurd (omega (arith, h.1))

found_exact : IsExact inquiry_fields (OfKind 5) found_at
unfolding found_at
found_exact = (makes found_of found_parts inquiry_fields (OfKind 5) (record { forth = λ p f. (refl, (record { value = (f.0.fits, All-from_recursion IsHostValue p.1 f.1.each); range = (f.0.low, f.1.low, f.1.high) }, refl)); back = found_back })).exact

leave_back : (m : Inquiry) → OfKind 6 m → (l : Leaver) × leaver.Fits l × (asks.Leave l ≡ m)
leave_back (asks.Report r) h = absurd (omega (arith, h.1))
leave_back (asks.Seat t) h = absurd (omega (arith, h.1))
leave_back (asks.Claim n t) h = absurd (omega (arith, h.1))
leave_back (asks.Look n) h = absurd (omega (arith, h.1))
leave_back (asks.Found n hosts) h = absurd (omega (arith, h.1))
leave_back (asks.Leave l) h = (l, (h.0.value, h.0.range), refl)
leave_back asks.Status h = absurd (omega (arith, h.1))

leave_exact : IsExact inquiry_fields (OfKind 6) (made asks.Leave leaver_at)
leave_exact = (makes asks.Leave leaver inquiry_fields (OfKind 6) (record { forth = λ l f. (refl, (record { value = f.0; range = f.1 }, refl)); back = leave_back })).exact

status_here : (m : Inquiry) → m ≡ asks.Status → ([] ≡ inquiry_fields m) × OfKind 7 m
status_here m e = subst (λ (x : Inquiry). ([] ≡ inquiry_fields x) × OfKind 7 x) (sym e) (refl, (record { value = tt; range = tt }, refl))

status_there : (m : Inquiry) → OfKind 7 m → ([] ≡ inquiry_fields m) × (m ≡ asks.Status)
status_there (asks.Report r) h = absurd (omega (arith, h.1))
status_there (asks.Seat t) h = absurd (omega (arith, h.1))
status_there (asks.Claim n t) h = absurd (omega (arith, h.1))
status_there (asks.Look n) h = absurd (omega (arith, h.1))
status_there (asks.Found n hosts) h = absurd (omega (arith, h.1))
status_there (asks.Leave l) h = absurd (omega (arith, h.1))
status_there asks.Status h = (refl, refl)

ask_status_exact : IsExact inquiry_fields (OfKind 7) (λ bytes. Ok (asks.Status, bytes))
ask_status_exact = same_exact (λ m. []) (λ m. m ≡ asks.Status) inquiry_fields (OfKind 7) (λ bytes. Ok (asks.Status, bytes)) (nothing_exact asks.Status) status_here status_there

at_kind : (read : List ℕ → Result (Inquiry × List ℕ) FieldFault) (kind n : ℕ) → eqb kind n ≡ true → IsExact inquiry_fields (OfKind n) read → IsExact inquiry_fields (OfKind kind) read
at_kind read kind n h e = subst (λ (k : ℕ). IsExact inquiry_fields (OfKind k) read) (sym (eqb-true kind n h)) e

none_of : (kind : ℕ) → eqb kind 1 ≡ false → eqb kind 2 ≡ false → eqb kind 3 ≡ false → eqb kind 4 ≡ false → eqb kind 5 ≡ false → eqb kind 6 ≡ false → eqb kind 7 ≡ false → (m : Inquiry) → inquiry_kind m ≡ kind → true ≡ false
none_of kind a b c d e f g (asks.Report r) h = other kind 1 refl h a
none_of kind a b c d e f g (asks.Seat t) h = other kind 2 refl h b
none_of kind a b c d e f g (asks.Claim n t) h = other kind 3 refl h c
none_of kind a b c d e f g (asks.Look n) h = other kind 4 refl h d
none_of kind a b c d e f g (asks.Found n hosts) h = other kind 5 refl h e
none_of kind a b c d e f g (asks.Leave l) h = other kind 6 refl h f
none_of kind a b c d e f g asks.Status h = other kind 7 refl h g

nothing_read : (kind : ℕ) → ((m : Inquiry) → inquiry_kind m ≡ kind → true ≡ false) → IsExact inquiry_fields (OfKind kind) (λ bytes. Err Malformed)
nothing_read kind none = record {
  takes = λ bytes m rest fits h. absurd cc;
  again = λ m rest f. absurd (true≢false (none m f.1));
}

inquiry_of_exact : (kind : ℕ) → IsExact inquiry_fields (OfKind kind) (inquiry_of kind)
unfolding inquiry_of
inquiry_of_exact kind = cond_exact inquiry_fields (OfKind kind) (made asks.Report report_at) _ (eqb kind 1) (λ h. at_kind (made asks.Report report_at) kind 1 h report_exact)
    (λ a. cond_exact inquiry_fields (OfKind kind) (made asks.Seat ticket_at) _ (eqb kind 2) (λ h. at_kind (made asks.Seat ticket_at) kind 2 h seat_exact)
    (λ b. cond_exact inquiry_fields (OfKind kind) claim_at _ (eqb kind 3) (λ h. at_kind claim_at kind 3 h claim_exact)
    (λ c. cond_exact inquiry_fields (OfKind kind) (made asks.Look founding_at) _ (eqb kind 4) (λ h. at_kind (made asks.Look founding_at) kind 4 h look_exact)
    (λ d. cond_exact inquiry_fields (OfKind kind) found_at _ (eqb kind 5) (λ h. at_kind found_at kind 5 h found_exact)
    (λ e. cond_exact inquiry_fields (OfKind kind) (made asks.Leave leaver_at) _ (eqb kind 6) (λ h. at_kind (made asks.Leave leaver_at) kind 6 h leave_exact)
    (λ f. cond_exact inquiry_fields (OfKind kind) (λ bytes. Ok (asks.Status, bytes)) (λ bytes. Err Malformed) (eqb kind 7) (λ h. at_kind (λ bytes. Ok (asks.Status, bytes)) kind 7 h ask_status_exact)
    (λ g. nothing_read kind (none_of kind a b c d e f g))))))))

pub inquiry_body : IsBody inquiry_bytes IsInquiry inquiry_at
unfolding inquiry_at
inquiry_body = kinded inquiry_kind inquiry_fields IsInquiry inquiry_of (λ k. whole_body inquiry_fields (OfKind k) (inquiry_of k) (inquiry_of_exact k))

-- ---- responses

-- what its type keeps, and that it is in range
pub record IsInRange (response : Response) : Type 0 where
  pub value : IsResponseValue response
  pub range : IsResponseInRange response

abbrev pub OfCode : ℕ → Response → Type 0
OfCode n response = IsInRange response × (response_kind response ≡ n)

yes_here : (m : Response) → m ≡ answers.Yes → ([] ≡ response_fields m) × OfCode 128 m
yes_here m e = subst (λ (x : Response). ([] ≡ response_fields x) × OfCode 128 x) (sym e) (refl, (record { value = tt; range = tt }, refl))

yes_there : (m : Response) → OfCode 128 m → ([] ≡ response_fields m) × (m ≡ answers.Yes)
yes_there answers.Yes h = (refl, refl)
yes_there (answers.Board b) h = absurd (omega (arith, h.1))
yes_there (answers.Seated n) h = absurd (omega (arith, h.1))
yes_there (answers.State s) h = absurd (omega (arith, h.1))
yes_there (answers.Status t) h = absurd (omega (arith, h.1))
yes_there (answers.No code t) h = absurd (omega (arith, h.1))

yes_exact : IsExact response_fields (OfCode 128) (λ bytes. Ok (answers.Yes, bytes))
yes_exact = same_exact (λ m. []) (λ m. m ≡ answers.Yes) response_fields (OfCode 128) (λ bytes. Ok (answers.Yes, bytes)) (nothing_exact answers.Yes) yes_here yes_there

board_back : (m : Response) → OfCode 129 m → (b : Board) × board.Fits b × (answers.Board b ≡ m)
board_back answers.Yes h = absurd (omega (arith, h.1))
board_back (answers.Board b) h = (b, record { value = h.0.value; range = h.0.range }, refl)
board_back (answers.Seated n) h = absurd (omega (arith, h.1))
board_back (answers.State s) h = absurd (omega (arith, h.1))
board_back (answers.Status t) h = absurd (omega (arith, h.1))
board_back (answers.No code t) h = absurd (omega (arith, h.1))

board_exact : IsExact response_fields (OfCode 129) (made answers.Board board_at)
board_exact = (makes answers.Board board response_fields (OfCode 129) (record { forth = λ b f. (refl, (record { value = f.value; range = f.range }, refl)); back = board_back })).exact

seated_back : (m : Response) → OfCode 130 m → (n : NodeId) × IsBelow16 n.0 × (answers.Seated n ≡ m)
seated_back answers.Yes h = absurd (omega (arith, h.1))
seated_back (answers.Board b) h = absurd (omega (arith, h.1))
seated_back (answers.Seated n) h = (n, h.0.value, refl)
seated_back (answers.State s) h = absurd (omega (arith, h.1))
seated_back (answers.Status t) h = absurd (omega (arith, h.1))
seated_back (answers.No code t) h = absurd (omega (arith, h.1))

seated_exact : IsExact response_fields (OfCode 130) (made answers.Seated node_at)
seated_exact = (makes answers.Seated node response_fields (OfCode 130) (record { forth = λ n f. (refl, (record { value = f; range = tt }, refl)); back = seated_back })).exact

state_back : (m : Response) → OfCode 132 m → (s : ManagerState) × state.Fits s × (answers.State s ≡ m)
state_back answers.Yes h = absurd (omega (arith, h.1))
state_back (answers.Board b) h = absurd (omega (arith, h.1))
state_back (answers.Seated n) h = absurd (omega (arith, h.1))
state_back (answers.State s) h = (s, record { value = h.0.value; place = h.0.range }, refl)
state_back (answers.Status t) h = absurd (omega (arith, h.1))
state_back (answers.No code t) h = absurd (omega (arith, h.1))

state_exact : IsExact response_fields (OfCode 132) (made answers.State state_at)
state_exact = (makes answers.State state response_fields (OfCode 132) (record { forth = λ s f. (refl, (record { value = f.value; range = f.place }, refl)); back = state_back })).exact

abbrev response_ok : Response → Result Response FieldFault
response_ok m = Ok m

status_takes : (bytes : List ℕ) (m : Response) → IsBytes bytes → response_ok (answers.Status bytes) ≡ Ok m → (bytes ≡ response_fields m) × OfCode 135 m
status_takes bytes m fits h = subst (λ (x : Response). (bytes ≡ response_fields x) × OfCode 135 x) (ok_is (answers.Status bytes) m h) (refl, (record { value = tt; range = tt }, refl))

status_again : (m : Response) → OfCode 135 m → all_of (status_at (response_fields m)) ≡ Ok m
unfolding status_at
status_again answers.Yes h = absurd (omega (arith, h.1))
status_again (answers.Board b) h = absurd (omega (arith, h.1))
status_again (answers.Seated n) h = absurd (omega (arith, h.1))
status_again (answers.State s) h = absurd (omega (arith, h.1))
status_again (answers.Status t) h = refl
status_again (answers.No code t) h = absurd (omega (arith, h.1))

status_body : IsBody response_fields (OfCode 135) (λ bytes. all_of (status_at bytes))
unfolding status_at
status_body = record { takes = status_takes; again = status_again }

no_parts : (code : ℕ) (rest : List ℕ) (m : Response) → IsBetween IsByte 1 12 code → response_ok (answers.No code rest) ≡ Ok m → (code ∷ rest ≡ response_fields m) × OfCode 143 m
no_parts code rest m f h = subst (λ (x : Response). (code ∷ rest ≡ response_fields x) × OfCode 143 x) (ok_is (answers.No code rest) m h) (refl, (record { value = f.fits; range = (f.low, f.high) }, refl))

no_takes : (bytes : List ℕ) (m : Response) → IsBytes bytes → all_of (no_at bytes) ≡ Ok m → (bytes ≡ response_fields m) × OfCode 143 m
unfolding no_at
no_takes bytes m fits h =
    let x = bind_ok (no_at bytes) (λ y. cond (eqb (length y.1) 0) (Ok y.0) (Err Malformed)) m h in
    let y = bind_ok (both (within 1 12 byte_at) all_bytes bytes) (λ p. Ok (answers.No p.0.0 p.0.1, p.1)) x.0 x.1 in
    let z = bind_ok (within 1 12 byte_at bytes) (λ c. all_bytes c.1 >>= λ b. Ok ((c.0, b.0), b.1)) y.0 y.1 in
    let t = (byte_within_exact 1 12).takes bytes z.0.0 z.0.1 fits z.1 in
    let inner : ((z.0.0, z.0.1), []) ≡ y.0 = ok_is ((z.0.0, z.0.1), []) y.0 z.2 in
    let made' : (answers.No y.0.0.0 y.0.0.1, y.0.1) ≡ x.0 = ok_is (answers.No y.0.0.0 y.0.0.1, y.0.1) x.0 y.2 in
    let p = passed (eqb (length x.0.1) 0) Malformed x.0.0 m x.2 in
    let is : answers.No z.0.0 z.0.1 ≡ m = ap (λ (q : (ℕ × List ℕ) × List ℕ). answers.No q.0.0 q.0.1) inner ∙ ap (λ (q : Response × List ℕ). q.0) made' ∙ p.1 in
    let r = no_parts z.0.0 z.0.1 m t.1 (ap response_ok is) in
    (t.0.parts ∙ r.0, r.1)

no_again : (m : Response) → OfCode 143 m → all_of (no_at (response_fields m)) ≡ Ok m
unfolding no_at
no_again answers.Yes h = absurd (omega (arith, h.1))
no_again (answers.Board b) h = absurd (omega (arith, h.1))
no_again (answers.Seated n) h = absurd (omega (arith, h.1))
no_again (answers.State s) h = absurd (omega (arith, h.1))
no_again (answers.Status t) h = absurd (omega (arith, h.1))
no_again (answers.No code t) h = rw ((byte_within_exact 1 12).again code t (record { fits = h.0.value; low = h.0.range.0; high = h.0.range.1 })) refl

no_body : IsBody response_fields (OfCode 143) (λ bytes. all_of (no_at bytes))
no_body = record { takes = no_takes; again = no_again }

body_at_kind : (read : List ℕ → Result (Response × List ℕ) FieldFault) (kind n : ℕ) → eqb kind n ≡ true → IsBody response_fields (OfCode n) (λ bytes. all_of (read bytes)) → IsBody response_fields (OfCode kind) (λ bytes. all_of (read bytes))
body_at_kind read kind n h e = subst (λ (k : ℕ). IsBody response_fields (OfCode k) (λ bytes. all_of (read bytes))) (sym (eqb-true kind n h)) e

exact_at_kind : (read : List ℕ → Result (Response × List ℕ) FieldFault) (kind n : ℕ) → eqb kind n ≡ true → IsExact response_fields (OfCode n) read → IsBody response_fields (OfCode kind) (λ bytes. all_of (read bytes))
exact_at_kind read kind n h e = body_at_kind read kind n h (whole_body response_fields (OfCode n) read e)

no_code : (kind : ℕ) → eqb kind 128 ≡ false → eqb kind 129 ≡ false → eqb kind 130 ≡ false → eqb kind 132 ≡ false → eqb kind 135 ≡ false → eqb kind 143 ≡ false → (m : Response) → response_kind m ≡ kind → true ≡ false
no_code kind a b c d e f answers.Yes h = other kind 128 refl h a
no_code kind a b c d e f (answers.Board m) h = other kind 129 refl h b
no_code kind a b c d e f (answers.Seated n) h = other kind 130 refl h c
no_code kind a b c d e f (answers.State s) h = other kind 132 refl h d
no_code kind a b c d e f (answers.Status t) h = other kind 135 refl h e
no_code kind a b c d e f (answers.No code t) h = other kind 143 refl h f

no_response : (kind : ℕ) → ((m : Response) → response_kind m ≡ kind → true ≡ false) → IsBody response_fields (OfCode kind) (λ bytes. Err Malformed)
no_response kind none = record {
  takes = λ bytes m fits h. absurd cc;
  again = λ m f. absurd (true≢false (none m f.1));
}

response_of_body : (kind : ℕ) → IsBody response_fields (OfCode kind) (λ bytes. all_of (response_of kind bytes))
unfolding response_of
response_of_body kind = body_cond response_fields (OfCode kind) (λ bytes. Ok (answers.Yes, bytes)) _ (eqb kind 128) (λ h. exact_at_kind (λ bytes. Ok (answers.Yes, bytes)) kind 128 h yes_exact)
    (λ a. body_cond response_fields (OfCode kind) (made answers.Board board_at) _ (eqb kind 129) (λ h. exact_at_kind (made answers.Board board_at) kind 129 h board_exact)
    (λ b. body_cond response_fields (OfCode kind) (made answers.Seated node_at) _ (eqb kind 130) (λ h. exact_at_kind (made answers.Seated node_at) kind 130 h seated_exact)
    (λ c. body_cond response_fields (OfCode kind) (made answers.State state_at) _ (eqb kind 132) (λ h. exact_at_kind (made answers.State state_at) kind 132 h state_exact)
    (λ d. body_cond response_fields (OfCode kind) status_at _ (eqb kind 135) (λ h. body_at_kind status_at kind 135 h status_body)
    (λ e. body_cond response_fields (OfCode kind) no_at (λ bytes. Err Malformed) (eqb kind 143) (λ h. body_at_kind no_at kind 143 h no_body)
    (λ f. no_response kind (no_code kind a b c d e f)))))))

pub response_body : IsBody response_bytes IsInRange response_at
unfolding response_at
response_body = kinded response_kind response_fields IsInRange response_of response_of_body
