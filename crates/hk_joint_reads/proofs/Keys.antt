-- What is found is of the keys that were asked for, in their order.
use Rattle.std.proofs.Common.{◌≡◌, ℕ, List, [], ◌∷◌, map, length, Bool, true, false, if◌then◌else◌, Option, Some, None, unwrap_or, refl, ap, subst, ◌∙◌, arith}
use Rattle.std.specs.Str.{bytes_eq}
use Rattle.std.proofs.lemmas.Slice.Eq.{bytes_eq-Decides}
use Rattle.hk_snap.specs.declared.rule.Publication.{Publication}
use Rattle.hk_snap.specs.declared.snapshot.Snapshot.{Snapshot}
use Rattle.hk_snap.specs.Snapshots.{last_shown}
use Rattle.hk_snap.specs.Ends.{Reader}
use Rattle.hk_joint_reads.specs.declared.read.Joint.{Joint}
use Rattle.hk_joint_reads.specs.declared.read.Joint.TheVariants.{Found}
use Rattle.hk_joint_reads.specs.Reads.{shown_of, ticket_of, tickets_of, looks_of, elsewhere, first_told, with_shown, snapshots, unfound, IsFound, IsJointRead}
use Rattle.hk_joint_reads.proofs.Rounds.{each_long}
use Rattle.hk_joint_reads.proofs.Still.{or_none, none_told, other_all}

abbrev keys_of : List Snapshot → List (List ℕ)
keys_of found = map (λ s. s.key) found

some_none : {A B : Type 0} (x : A) → ◌≡◌ {A = Option A} (Some x) None → B
some_none x e = absurd (cc)

-- a snapshot that is shown of a key is of that key
shown_of_key : (key : List ℕ) (shown : Option Snapshot) (first : Option ℕ) (rest : List Snapshot) → elsewhere (record { key = key; first = first; second = shown_of key shown }) ≡ None →
    keys_of (with_shown (shown_of key shown) rest) ≡ key ∷ keys_of rest
shown_of_key key None None rest told = some_none _ told
shown_of_key key None (Some t) rest told = some_none _ told
shown_of_key key (Some s) first rest told = at (bytes_eq s.key key) refl told
  where
    gone : (first : Option ℕ) → elsewhere (record { key = key; first = first; second = None }) ≡ None → ⊥
    gone None e = some_none _ e
    gone (Some t) e = some_none _ e

    at : (same : Bool) → bytes_eq s.key key ≡ same → elsewhere (record { key = key; first = first; second = if same then Some s else None }) ≡ None →
        keys_of (with_shown (if same then Some s else None) rest) ≡ key ∷ keys_of rest
    at true is e = ap (λ (k : List ℕ). k ∷ keys_of rest) ((bytes_eq-Decides s.key key).0 is)
    at false is e = absurd (gone first e)

all_keys : (keys : List (List ℕ)) (first second : List (List Publication)) → length first ≡ length keys → length second ≡ length keys →
    first_told elsewhere (looks_of keys (tickets_of keys first) second) ≡ None → keys_of (snapshots (looks_of keys (tickets_of keys first) second)) ≡ keys
all_keys [] first second long again told = refl
all_keys (key ∷ keys) [] second long again told = absurd (omega (arith, long))
all_keys (key ∷ keys) (a ∷ first) [] long again told = absurd (omega (arith, again))
all_keys (key ∷ keys) (a ∷ first) (b ∷ second) long again told =
    let here = or_none _ _ told in
    shown_of_key key (last_shown b) (ticket_of key (last_shown a)) (snapshots (looks_of keys (tickets_of keys first) second)) here.0
    ∙ ap (λ (more : List (List ℕ)). key ∷ more) (all_keys keys first second (omega (arith, long)) (omega (arith, again)) here.1)

same_found : (a b : List Snapshot) → Found a ≡ Found b → a ≡ b
same_found a b e = cc

pub found_keys : (old new : Reader) (keys : List (List ℕ)) (end skew : ℕ) (reading : Option ℕ) (found : List Snapshot) → IsJointRead old new keys end skew reading (Found found) → map (λ s. s.key) found ≡ keys
found_keys old new keys end skew reading found r =
    let looks = looks_of keys (tickets_of keys r.first) r.second in
    let none = none_told (unfound looks end r.now skew) (Found (snapshots looks)) (other_all looks end r.now skew) (subst IsFound r.told tt) in
    let told : Found found ≡ Found (snapshots looks) = r.told ∙ ap (λ (o : Option Joint). unwrap_or o (Found (snapshots looks))) none in
    ap (λ (f : List Snapshot). map (λ s. s.key) f) (same_found found (snapshots looks) told)
    ∙ all_keys keys r.first r.second (each_long old r.between keys r.first r.loads) (each_long r.between new keys r.second r.again) (or_none (first_told elsewhere looks) _ none).0
