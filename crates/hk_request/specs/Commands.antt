-- The commands, by their names.
use Rattle.std.specs.Prelude.{ℕ, List, Bool, Option, None, Some, ◌||◌, if◌then◌else◌, codes}
use Rattle.hk_request.specs.declared.words.Command.{Command}
use Rattle.hk_request.specs.declared.words.Command.TheVariants.{Get, Gets, Set, Cas, Add, Replace, Incr, Decr, Delete, Quit, Version}
use Rattle.hk_request.specs.Words.{is_text}

abbrev pub name_of : Command → List ℕ
name_of Get = codes "get"
name_of Gets = codes "gets"
name_of Set = codes "set"
name_of Cas = codes "cas"
name_of Add = codes "add"
name_of Replace = codes "replace"
name_of Incr = codes "incr"
name_of Decr = codes "decr"
name_of Delete = codes "delete"
name_of Quit = codes "quit"
name_of Version = codes "version"

-- the command with this name
unfoldable pub command_of : List ℕ → Option Command
command_of word =
    if is_text word (codes "get") then Some Get
    else (if is_text word (codes "gets") then Some Gets
    else (if is_text word (codes "set") then Some Set
    else (if is_text word (codes "cas") then Some Cas
    else (if is_text word (codes "add") then Some Add
    else (if is_text word (codes "replace") then Some Replace
    else (if is_text word (codes "incr") then Some Incr
    else (if is_text word (codes "decr") then Some Decr
    else (if is_text word (codes "delete") then Some Delete
    else (if is_text word (codes "quit") then Some Quit
    else (if is_text word (codes "version") then Some Version
    else None))))))))))

-- the commands of memcached behind whose lines a block comes
abbrev pub has_block : List ℕ → Bool
has_block word = is_text word (codes "set") || (is_text word (codes "cas") || (is_text word (codes "add") || (is_text word (codes "replace") || (is_text word (codes "append") || is_text word (codes "prepend")))))
