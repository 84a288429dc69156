-- That entries are read exactly.
use Rattle.std.proofs.Common.{true≢false, ◌≡◌, ℕ, true, false, eqb, List, [], ◌∷◌, ◌++◌, Result, Ok, Err, refl, sym, ap, subst, ◌∙◌, arith}
use Rattle.std.specs.Int.{w64, to_be_bytes}
use Rattle.std.proofs.lemmas.Bool.{eqb-true}
use Rattle.hk_base.specs.declared.letter.Actor.{Actor}
use Rattle.hk_base.specs.declared.letter.Actor.TheVariants.{Node, Manager}
use Rattle.hk_base.specs.declared.view.Change.{Change}
use Rattle.hk_fields.specs.declared.tickets.Ticket.{Ticket}
use Rattle.hk_fields.specs.declared.fault.FieldFault.{FieldFault}
use Rattle.hk_fields.specs.declared.fault.FieldFault.TheVariants.{Malformed}
use Rattle.hk_fields.specs.Fields.{both, chain, made, within, byte_at, number_at, ticket_at, IsTicket, actor_bytes, actor_at, IsActorField}
use Rattle.hk_fields.proofs.Exact.{IsExact, IsBetween, IsByte, byte_text, IsBelow64, byte_exact, both_exact, chain_exact, made_exact, same_exact, cond_exact, nothing_exact, byte_within_exact, number64_exact, ticket_exact, actor_exact}
use Rattle.hk_log.specs.declared.entry.Founding.{Founding}
use Rattle.hk_log.specs.declared.entry.Entry.{Entry}
use Rattle.hk_log.specs.declared.entry.Entry.TheVariants.{Founded, Open, Propose, Receive, Bound}
use Rattle.hk_log.specs.Entries.{founding_bytes, change_bytes, entry_kind, entry_fields, entry_bytes, IsActorValue, IsActorInRange, IsChangeValue, IsEntry}
use Rattle.hk_log.specs.Fields.{founding_at, change_at, proposed_at, received_at, bound_at, entry_of, entry_at}
use Rattle.hk_log.proofs.Parts.{ticket_text, IsFoundingRead, founding_exact, change_exact}
use Rattle.hk_log.proofs.Received.{OfKind, received_exact}

-- ---- each kind

founded_back : (entry : Entry) → OfKind 1 entry → (f : Founding) × IsFoundingRead f × (Founded f ≡ entry)
founded_back (Founded f) h = (f, record { value = h.0.value; range = h.0.range }, refl)
founded_back Open h = absurd (omega (arith, h.1))
founded_back (Propose shard base change) h = absurd (omega (arith, h.1))
founded_back (Receive shard letter) h = absurd (omega (arith, h.1))
founded_back (Bound actor ticket) h = absurd (omega (arith, h.1))

founded_exact : IsExact entry_fields (OfKind 1) (made Founded founding_at)
founded_exact = made_exact Founded founding_bytes IsFoundingRead founding_at entry_fields (OfKind 1) founding_exact (record { forth = λ f r. (refl, (record { value = r.value; range = r.range }, refl)); back = founded_back })

open_here : (entry : Entry) → entry ≡ Open → ([] ≡ entry_fields entry) × OfKind 2 entry
open_here entry e = subst (λ (x : Entry). ([] ≡ entry_fields x) × OfKind 2 x) (sym e) (refl, (record { value = tt; range = tt }, refl))

open_there : (entry : Entry) → OfKind 2 entry → ([] ≡ entry_fields entry) × (entry ≡ Open)
open_there Open h = (refl, refl)
open_there (Founded f) h = absurd (omega (arith, h.1))
open_there (Propose shard base change) h = absurd (omega (arith, h.1))
open_there (Receive shard letter) h = absurd (omega (arith, h.1))
open_there (Bound actor ticket) h = absurd (omega (arith, h.1))

open_exact : IsExact entry_fields (OfKind 2) (λ bytes. Ok (Open, bytes))
open_exact = same_exact (λ entry. []) (λ entry. entry ≡ Open) entry_fields (OfKind 2) (λ bytes. Ok (Open, bytes)) (nothing_exact Open) open_here open_there

abbrev Proposal : Type 0
Proposal = ℕ × (ℕ × Change)

abbrev proposal_text : Proposal → List ℕ
proposal_text p = byte_text p.0 ++ (to_be_bytes w64 p.1.0 ++ change_bytes p.1.1)

abbrev IsProposal : Proposal → Type 0
IsProposal p = IsBetween IsByte 0 7 p.0 × (IsBelow64 p.1.0 × IsChangeValue p.1.1)

abbrev proposal_of : Proposal → Entry
proposal_of p = Propose p.0 p.1.0 p.1.1

proposal_forth : (p : Proposal) → IsProposal p → (proposal_text p ≡ entry_fields (proposal_of p)) × OfKind 3 (proposal_of p)
proposal_forth p f = (refl, (record { value = (f.1.0, f.1.1); range = omega (arith, f.0.high) }, refl))

proposal_back : (entry : Entry) → OfKind 3 entry → (p : Proposal) × IsProposal p × (proposal_of p ≡ entry)
proposal_back (Propose shard base change) h = ((shard, (base, change)), (record { fits = omega (arith, h.0.range); low = omega arith; high = omega (arith, h.0.range) }, (h.0.value.0, h.0.value.1)), refl)
proposal_back (Founded f) h = absurd (omega (arith, h.1))
proposal_back Open h = absurd (omega (arith, h.1))
proposal_back (Receive shard letter) h = absurd (omega (arith, h.1))
proposal_back (Bound actor ticket) h = absurd (omega (arith, h.1))

proposed_exact : IsExact entry_fields (OfKind 3) proposed_at
unfolding proposed_at
proposed_exact = made_exact proposal_of proposal_text IsProposal (both (within 0 7 byte_at) (both (number_at w64) change_at)) entry_fields (OfKind 3)
    (both_exact byte_text (IsBetween IsByte 0 7) (within 0 7 byte_at) (λ (q : ℕ × Change). to_be_bytes w64 q.0 ++ change_bytes q.1) (λ (q : ℕ × Change). IsBelow64 q.0 × IsChangeValue q.1) (both (number_at w64) change_at) (byte_within_exact 0 7)
    (both_exact (to_be_bytes w64) IsBelow64 (number_at w64) change_bytes IsChangeValue change_at number64_exact change_exact))
    (record { forth = proposal_forth; back = proposal_back })

actor_parts : (actor : Actor) → IsActorField actor → IsActorValue actor × IsActorInRange actor
actor_parts (Node node) f = (f, tt)
actor_parts (Manager manager) f = (omega (arith, f), f)

actor_whole : (actor : Actor) → IsActorValue actor → IsActorInRange actor → IsActorField actor
actor_whole (Node node) v r = v
actor_whole (Manager manager) v r = r

abbrev bound_of : Actor × Ticket → Entry
bound_of p = Bound p.0 p.1

bound_forth : (p : Actor × Ticket) → IsActorField p.0 × IsTicket p.1 → (actor_bytes p.0 ++ ticket_text p.1 ≡ entry_fields (bound_of p)) × OfKind 5 (bound_of p)
bound_forth p f =
    let a = actor_parts p.0 f.0 in
    (refl, (record { value = (a.0, f.1); range = a.1 }, refl))

bound_back : (entry : Entry) → OfKind 5 entry → (p : Actor × Ticket) × (IsActorField p.0 × IsTicket p.1) × (bound_of p ≡ entry)
bound_back (Bound actor ticket) h = ((actor, ticket), (actor_whole actor h.0.value.0 h.0.range, h.0.value.1), refl)
bound_back (Founded f) h = absurd (omega (arith, h.1))
bound_back Open h = absurd (omega (arith, h.1))
bound_back (Propose shard base change) h = absurd (omega (arith, h.1))
bound_back (Receive shard letter) h = absurd (omega (arith, h.1))

bound_exact : IsExact entry_fields (OfKind 5) bound_at
unfolding bound_at
bound_exact = made_exact bound_of (λ p. actor_bytes p.0 ++ ticket_text p.1) (λ p. IsActorField p.0 × IsTicket p.1) (both actor_at ticket_at) entry_fields (OfKind 5)
    (both_exact actor_bytes IsActorField actor_at ticket_text IsTicket ticket_at actor_exact ticket_exact)
    (record { forth = bound_forth; back = bound_back })

-- ---- whichever it is

at_kind : (read : List ℕ → Result (Entry × List ℕ) FieldFault) (kind n : ℕ) → eqb kind n ≡ true → IsExact entry_fields (OfKind n) read → IsExact entry_fields (OfKind kind) read
at_kind read kind n h e = subst (λ (k : ℕ). IsExact entry_fields (OfKind k) read) (sym (eqb-true kind n h)) e

other : (kind n : ℕ) → eqb n n ≡ true → n ≡ kind → eqb kind n ≡ false → true ≡ false
other kind n itself e h = sym itself ∙ ap (λ (m : ℕ). eqb m n) e ∙ h

none_of : (kind : ℕ) → eqb kind 1 ≡ false → eqb kind 2 ≡ false → eqb kind 3 ≡ false → eqb kind 4 ≡ false → eqb kind 5 ≡ false → (entry : Entry) → entry_kind entry ≡ kind → true ≡ false
none_of kind a b c d e (Founded f) h = other kind 1 refl h a
none_of kind a b c d e Open h = other kind 2 refl h b
none_of kind a b c d e (Propose shard base change) h = other kind 3 refl h c
none_of kind a b c d e (Receive shard letter) h = other kind 4 refl h d
none_of kind a b c d e (Bound actor ticket) h = other kind 5 refl h e

nothing_read : (kind : ℕ) → ((entry : Entry) → entry_kind entry ≡ kind → true ≡ false) → IsExact entry_fields (OfKind kind) (λ bytes. Err Malformed)
nothing_read kind none = record {
  takes = λ bytes entry rest fits h. absurd cc;
  again = λ entry rest f. absurd (true≢false (none entry f.1));
}

pub entry_of_exact : (kind : ℕ) → IsExact entry_fields (OfKind kind) (entry_of kind)
unfolding entry_of
entry_of_exact kind = cond_exact entry_fields (OfKind kind) (made Founded founding_at) _ (eqb kind 1) (λ h. at_kind (made Founded founding_at) kind 1 h founded_exact)
    (λ a. cond_exact entry_fields (OfKind kind) (λ bytes. Ok (Open, bytes)) _ (eqb kind 2) (λ h. at_kind (λ bytes. Ok (Open, bytes)) kind 2 h open_exact)
    (λ b. cond_exact entry_fields (OfKind kind) proposed_at _ (eqb kind 3) (λ h. at_kind proposed_at kind 3 h proposed_exact)
    (λ c. cond_exact entry_fields (OfKind kind) received_at _ (eqb kind 4) (λ h. at_kind received_at kind 4 h received_exact)
    (λ d. cond_exact entry_fields (OfKind kind) bound_at (λ bytes. Err Malformed) (eqb kind 5) (λ h. at_kind bound_at kind 5 h bound_exact)
    (λ e. nothing_read kind (none_of kind a b c d e))))))

kind_small : (entry : Entry) → IsByte (entry_kind entry)
kind_small (Founded f) = omega arith
kind_small Open = omega arith
kind_small (Propose shard base change) = omega arith
kind_small (Receive shard letter) = omega arith
kind_small (Bound actor ticket) = omega arith

pub entry_exact : IsExact entry_bytes IsEntry entry_at
unfolding entry_at
entry_exact = made_exact (λ p. p.1) (λ p. byte_text p.0 ++ entry_fields p.1) (λ p. IsByte p.0 × OfKind p.0 p.1) (chain byte_at entry_of) entry_bytes IsEntry
    (chain_exact byte_text IsByte byte_at (λ kind. entry_fields) OfKind entry_of byte_exact entry_of_exact)
    (record { forth = λ p f. (ap (λ (n : ℕ). n ∷ entry_fields p.1) (sym f.1.1), f.1.0); back = λ e f. ((entry_kind e, e), (kind_small e, (f, refl)), refl) })
