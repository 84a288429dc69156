-- What the head of a store has.
use Rattle.std.specs.Prelude.{◌≡◌, ℕ, List, Bool, true, false, is_some, codes}
use Rattle.hk_request.specs.declared.request.Verb.{Verb}
use Rattle.hk_request.specs.declared.request.Verb.TheVariants.{Set, Cas, Add, Replace}
use Rattle.hk_request.specs.declared.request.StoreHead.{StoreHead}
use Rattle.hk_request.specs.declared.request.Head.{Head}
use Rattle.hk_request.specs.declared.request.Head.TheVariants.{Whole, Store}

-- the first word of its line
abbrev pub word_of : Verb → List ℕ
word_of Set = codes "set"
word_of Cas = codes "cas"
word_of Add = codes "add"
word_of Replace = codes "replace"

abbrev pub is_cas : Verb → Bool
is_cas Cas = true
is_cas verb = false

-- a tag is there exactly where the verb is Cas
abbrev pub HasItsTag : StoreHead → Type 0
HasItsTag head = is_some head.tag ≡ is_cas head.verb

abbrev pub HasItsTagIfStore : Head → Type 0
HasItsTagIfStore (Whole request) = Unit {0}
HasItsTagIfStore (Store head) = HasItsTag head
