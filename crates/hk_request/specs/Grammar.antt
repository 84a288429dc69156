-- The grammar of a line: which words are which request. It is memcached's `protocol.txt`, as far as it is kept here.
use Rattle.std.specs.Prelude.{◌≡◌, ◌≢◌, ◌≤◌, ℕ, ◌-◌, ◌^◌, List, [], ◌∷◌, length, Bool, true, false, Option, None, Some, codes, if◌then◌else◌, Result, Ok, Err}
use Rattle.std.specs.List.{list_all, AllByRecursion}
use Rattle.std.specs.Char.{is_ascii_digit}
use Rattle.std.specs.Str.Parse.{digits_value}
use Rattle.hk_base.specs.Key.{IsKey}
use Rattle.hk_base.specs.declared.call.Op.{Op}
use Rattle.hk_base.specs.declared.call.Op.TheVariants.{Incr, Decr, Delete}
use Rattle.hk_base.specs.declared.data.TheConstants.{MAX_DATA_LEN}
use Rattle.hk_request.specs.declared.request.Request.{Request}
use Rattle.hk_request.specs.declared.request.Request.TheVariants.{Get, Update, Quit, Version}
use Rattle.hk_request.specs.declared.request.StoreHead.{StoreHead}
use Rattle.hk_request.specs.declared.request.Head.{Head}
use Rattle.hk_request.specs.declared.request.Head.TheVariants.{Whole, Store}
use Rattle.hk_request.specs.declared.request.RequestCause.TheVariants as cause
use Rattle.hk_request.specs.declared.request.RequestFault.{RequestFault}
use Rattle.hk_request.specs.Heads.{word_of, HasItsTag}

-- 1 to 20 decimal digits of this value, at most the limit; there may be zeros in front
pub record IsNumber (limit : ℕ) (word : List ℕ) (n : ℕ) : Type 0 where
  pub some : 1 ≤ length word
  pub few : length word ≤ 20
  pub digits : list_all is_ascii_digit word ≡ true
  pub value : digits_value 10 word ≡ n
  pub within : n ≤ limit

-- the greatest numbers of 32 bits and of 64
abbrev pub small : ℕ
small = 4294967295

abbrev pub large : ℕ
large = 2 ^ 64 - 1

-- the words at the end: none, or the one that asks for no reply
abbrev pub IsNoreply : List (List ℕ) → Bool → Type 0
IsNoreply [] noreply = noreply ≡ false
IsNoreply (word ∷ []) noreply = (word ≡ codes "noreply") × (noreply ≡ true)
IsNoreply words noreply = ⊥

-- an incr or a decr, KEY NUMBER [noreply]
pub record IsChange (command : List ℕ) (words : List (List ℕ)) (key : List ℕ) (by : ℕ) (noreply : Bool) : Type 0 where
  pub digits : List ℕ
  pub last : List (List ℕ)
  pub spelling : words ≡ command ∷ key ∷ digits ∷ last
  pub key_word : IsKey key
  pub by_word : IsNumber large digits by
  pub last_words : IsNoreply last noreply

-- a delete, KEY [noreply]
pub record IsDeletion (words : List (List ℕ)) (key : List ℕ) (noreply : Bool) : Type 0 where
  pub last : List (List ℕ)
  pub spelling : words ≡ codes "delete" ∷ key ∷ last
  pub key_word : IsKey key
  pub last_words : IsNoreply last noreply

-- a set, an add or a replace, KEY FLAGS EXPTIME BYTES [noreply], or a cas, KEY FLAGS EXPTIME BYTES TAG [noreply]
abbrev pub IsTagged : Option ℕ → List (List ℕ) → Bool → Type 0
IsTagged None words noreply = IsNoreply words noreply
IsTagged (Some tag) [] noreply = ⊥
IsTagged (Some tag) (digits ∷ words) noreply = IsNumber large digits tag × IsNoreply words noreply

pub record IsStore (words : List (List ℕ)) (head : StoreHead) : Type 0 where
  pub flags : List ℕ
  pub expiry : List ℕ
  pub size : List ℕ
  pub others : List (List ℕ)
  pub spelling : words ≡ word_of head.verb ∷ head.key ∷ flags ∷ expiry ∷ size ∷ others
  pub key_word : IsKey head.key
  pub flags_word : IsNumber small flags head.flags
  pub expiry_word : IsNumber large expiry 0
  pub size_word : IsNumber small size head.bytes
  pub short : head.bytes ≤ MAX_DATA_LEN
  pub its_tag : HasItsTag head
  pub other_words : IsTagged head.tag others head.noreply

-- an update whose operation stands on its line
abbrev pub IsUpdate : List (List ℕ) → List ℕ → Op → Bool → Type 0
IsUpdate words key (Incr by) noreply = IsChange (codes "incr") words key by noreply
IsUpdate words key (Decr by) noreply = IsChange (codes "decr") words key by noreply
IsUpdate words key Delete noreply = IsDeletion words key noreply
IsUpdate words key op noreply = ⊥

abbrev pub IsWhole : List (List ℕ) → Request → Type 0
IsWhole words (Get keys tags) = (words ≡ (if tags then codes "gets" else codes "get") ∷ keys) × (keys ≢ []) × AllByRecursion IsKey keys
IsWhole words (Update key op noreply) = IsUpdate words key op noreply
IsWhole words Quit = words ≡ codes "quit" ∷ []
IsWhole words Version = words ≡ codes "version" ∷ []

-- the words of a line are this request, or the head of this store
abbrev pub IsHead : List (List ℕ) → Head → Type 0
IsHead words (Whole request) = IsWhole words request
IsHead words (Store head) = IsStore words head

-- reading gave this, unless an allocation was refused
abbrev pub IsReadAs : Result Head RequestFault → Head → Type 0
IsReadAs (Ok read) head = read ≡ head
IsReadAs (Err fault) head = fault.cause ≡ cause.Memory
