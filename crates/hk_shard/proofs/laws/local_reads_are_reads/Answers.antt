use Rattle.hk_shard.proofs.Reading.{local_reads_are_reads, earlier_leases_do}
use Rattle.hk_shard.proofs.laws.local_reads_are_reads.Goals as goal

pub returns : goal.returns
returns c = record { reads = local_reads_are_reads; earlier = earlier_leases_do }
