-- Bytes that are written, or read, one piece after the other.
use Rattle.std.proofs.Common.{ℕ, ◌+◌, ◌++◌, List, Option, Some, None, take, drop, sym, append_assoc}
use Rattle.std.proofs.Math.Seq.{take-add}
use Rattle.std.specs.Io.KnownBytes.{Appends, Consumes}

pub appends_more : (old mid new : Option (List ℕ)) (a b : List ℕ) → Appends old mid a → Appends mid new b → Appends old new (a ++ b)
appends_more None mid new a b h k = tt
appends_more (Some xs) None new a b h k = absurd h
appends_more (Some xs) (Some ys) None a b h k = absurd k
appends_more (Some xs) (Some ys) (Some zs) a b h k = rw (k, h) (append_assoc xs a b)

pub consumes_more : (old mid new : Option (List ℕ)) (a b : List ℕ) → Consumes old mid a → Consumes mid new b → Consumes old new (a ++ b)
consumes_more None mid new a b h k = tt
consumes_more (Some xs) None new a b h k = absurd h
consumes_more (Some xs) (Some ys) None a b h k = absurd k
consumes_more (Some xs) (Some ys) (Some zs) a b h k = rw (h, k) (sym (append_assoc a b zs))

pub written_more : (old mid new : Option (List ℕ)) (text : List ℕ) (at n : ℕ) → Appends old mid (take at text) → Appends mid new (take n (drop at text)) → Appends old new (take (at + n) text)
written_more old mid new text at n h k = rw take-add (appends_more old mid new (take at text) (take n (drop at text)) h k)
