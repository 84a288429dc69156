-- Which node a host has, by the lines that a manager answers to STATUS. Of each node that it tells of there is one, in words with a
-- space between each two, as `node 3 10.0.0.3:11400 ready manager=2 clients=..`.
use Rattle.std.specs.Prelude.{ℕ, Bool, false, max, not, ◌==◌, ◌&&◌, nat_lt, bytes_eq, if◌then◌else◌, codes, decimal, List, ◌++◌, length, slice_get, Option, None, Some}
use Rattle.std.specs.List.{list_all, filter_map, reduce, slice_split}
use Rattle.std.specs.Char.{is_ascii_digit}
use Rattle.std.specs.Str.Parse.{digits_value}

-- what stands between line feeds
abbrev pub lines : List ℕ → List (List ℕ)
lines text = slice_split (λ byte. byte == 10) text

-- what stands between spaces
abbrev pub words : List ℕ → List (List ℕ)
words line = slice_split (λ byte. byte == 32) line

-- the word at this place of a line, counted from 0
abbrev pub word_at : List ℕ → ℕ → Option (List ℕ)
word_at line place = slice_get (words line) place

abbrev pub is_text : Option (List ℕ) → List ℕ → Bool
is_text None text = false
is_text (Some word) text = bytes_eq word text

-- the number below 2 ^ 16 that decimal digits write
abbrev pub number_of : List ℕ → Option ℕ
number_of digits =
    if list_all is_ascii_digit digits then
    (if not (length digits == 0) && nat_lt (digits_value 10 digits) 65536 then Some (digits_value 10 digits) else None)
    else None

abbrev pub number_in : Option (List ℕ) → Option ℕ
number_in None = None
number_in (Some digits) = number_of digits

-- the line is that of a node whose process has the manager of this host, of hosts counted from 0
abbrev pub is_of_host : ℕ → List ℕ → Bool
is_of_host host line = is_text (word_at line 0) (codes "node") && is_text (word_at line 4) (codes "manager=" ++ decimal host)

-- the number of that node
abbrev pub node_in : ℕ → List ℕ → Option ℕ
node_in host line = if is_of_host host line then number_in (word_at line 1) else None

-- The greatest of these numbers, if there is one. Where the process of a host was started again there may be two lines, since its
-- node of before is a member still: each later node has a greater number.
abbrev pub host_node : ℕ → List ℕ → Option ℕ
host_node host text = reduce max (filter_map (node_in host) (lines text))
