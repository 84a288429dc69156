-- What a joint read finds, its reader was shown.
use Rattle.std.proofs.Common.{◌≡◌, ℕ, List, [], ◌∷◌, Bool, true, false, cond, Option, Some, None, refl, sym, ap, subst, ◌∙◌}
use Rattle.std.specs.Prelude.{unwrap_or}
use Rattle.std.specs.List.{AllByRecursion}
use Rattle.std.specs.Str.{bytes_eq}
use Rattle.std.proofs.lemmas.Slice.Eq.{bytes_eq-Decides}
use mathlib.Core.List.{IsPrefix}
use Rattle.hk_snap.specs.declared.rule.Publication.{Publication}
use Rattle.hk_snap.specs.declared.snapshot.Snapshot.{Snapshot}
use Rattle.hk_snap.specs.Snapshots.{cell_of, last_shown}
use Rattle.hk_snap.specs.Ends.{Reader, seen_at}
use Rattle.hk_snap.proofs.Prefixes.{prefix_trans}
use Rattle.hk_shard.specs.Shard.{ShardState}
use Rattle.hk_joint_reads.specs.declared.look.KeyLoads.{KeyLoads}
use Rattle.hk_joint_reads.specs.declared.read.Joint.{Joint}
use Rattle.hk_joint_reads.specs.declared.read.Joint.TheVariants.{Found}
use Rattle.hk_joint_reads.specs.Reads.{tickets_of, looks_of, shown_of, with_shown, snapshots, unfound, IsFound}
use Rattle.hk_joint_reads.proofs.Still.{AreBelow, each_below, other_all, none_told}
use Rattle.hk_place.specs.Cut.{WasShown, IsReaderOf, FoundWereShown}

module _ (s : ShardState) (r : Reader) (ours : IsReaderOf s r) where
  one : (key : List ℕ) (seen : List Publication) (o : Option Snapshot) (rest : List Snapshot) → last_shown seen ≡ o → IsPrefix seen (seen_at r.ends (cell_of key)) → AllByRecursion (WasShown s) rest
      → AllByRecursion (WasShown s) (with_shown (shown_of key o) rest)
  one key seen None rest e front more = more
  one key seen (Some x) rest e front more = by_key (bytes_eq x.key key) refl
    where
      by_key : (b : Bool) → bytes_eq x.key key ≡ b → AllByRecursion (WasShown s) (with_shown (cond b (Some x) None) rest)
      by_key true is =
          let same : x.key ≡ key = (bytes_eq-Decides x.key key).0 is in
          let whole : IsPrefix seen (seen_at s.ends (cell_of x.key)) =
          subst (λ (k : List ℕ). IsPrefix seen (seen_at s.ends (cell_of k))) (sym same) (prefix_trans seen (seen_at r.ends (cell_of key)) (seen_at s.ends (cell_of key)) front (ours (cell_of key))) in
          ((seen, whole, e), more)
      by_key false is = more

  all : (keys : List (List ℕ)) (tickets : List (Option ℕ)) (lists : List (List Publication)) → AreBelow r keys lists → AllByRecursion (WasShown s) (snapshots (looks_of keys tickets lists))
  all [] tickets lists below = tt
  all (key ∷ keys) [] lists below = tt
  all (key ∷ keys) (t ∷ tickets) [] below = tt
  all (key ∷ keys) (t ∷ tickets) (seen ∷ lists) below = one key seen (last_shown seen) (snapshots (looks_of keys tickets lists)) refl below.0 (all keys tickets lists below.1)

same_found : (xs ys : List Snapshot) → Found xs ≡ Found ys → ys ≡ xs
same_found xs ys e = cc

pub found_were_shown : FoundWereShown
found_were_shown s old new keys end skew reading found ours read =
    let looks : List KeyLoads = looks_of keys (tickets_of keys read.first) read.second in
    let none : unfound looks end read.now skew ≡ None = none_told (unfound looks end read.now skew) (Found (snapshots looks)) (other_all looks end read.now skew) (subst IsFound read.told tt) in
    let is : found ≡ snapshots looks = same_found (snapshots looks) found (sym (read.told ∙ ap (λ (o : Option Joint). unwrap_or o (Found (snapshots looks))) none)) in
    subst (AllByRecursion (WasShown s)) (sym is) (all s new ours keys (tickets_of keys read.first) read.second (each_below read.between new keys read.second read.again))
