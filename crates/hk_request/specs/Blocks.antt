-- What a head and its block are together.
use Rattle.std.specs.Prelude.{◌≡◌, ◌≢◌, ℕ, List, take, drop, Option, unwrap_or, codes, Result, Ok, Err}
use Rattle.hk_base.specs.declared.call.Op.{Op}
use Rattle.hk_base.specs.declared.call.Op.TheVariants as op
use Rattle.hk_base.specs.declared.call.Content.{Content}
use Rattle.hk_request.specs.declared.request.Request.{Request}
use Rattle.hk_request.specs.declared.request.Request.TheVariants.{Update}
use Rattle.hk_request.specs.declared.request.Verb.{Verb}
use Rattle.hk_request.specs.declared.request.Verb.TheVariants.{Set, Cas, Add, Replace}
use Rattle.hk_request.specs.declared.request.StoreHead.{StoreHead}
use Rattle.hk_request.specs.declared.request.BlockFault.{BlockFault}
use Rattle.hk_request.specs.declared.request.BlockFault.TheVariants.{Memory, BadEnd}

-- the operation of a store; a cas has a tag
abbrev pub op_of : Verb → Option ℕ → Content → Op
op_of Set tag content = op.Write content
op_of Cas tag content = op.Cas (unwrap_or tag 0) content
op_of Add tag content = op.Add content
op_of Replace tag content = op.Replace content

abbrev pub data_of : StoreHead → List ℕ → List ℕ
data_of head block = take head.bytes block

abbrev pub end_of : StoreHead → List ℕ → List ℕ
end_of head block = drop head.bytes block

-- the update of the block's data
abbrev pub update_of : StoreHead → List ℕ → Request
update_of head block = Update head.key (op_of head.verb head.tag (record { flags = head.flags; bytes = data_of head block })) head.noreply

-- what finishing a head gives: its update exactly where the block ends as it must, else BadEnd
abbrev pub IsBlockFault : BlockFault → StoreHead → List ℕ → Type 0
IsBlockFault Memory head block = Unit {0}
IsBlockFault BadEnd head block = end_of head block ≢ codes "\r\n"

abbrev pub IsFinished : Result Request BlockFault → StoreHead → List ℕ → Type 0
IsFinished (Ok request) head block = (end_of head block ≡ codes "\r\n") × (request ≡ update_of head block)
IsFinished (Err fault) head block = IsBlockFault fault head block
