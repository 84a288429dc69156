-- Connections that were received, one after the other.
use Rattle.std.proofs.Common.{ℕ, ◌+◌, subst, refl, Option, None, Some, Result, Ok, Err, arith}
use Rattle.hk_outside.specs.Causes.{HasCause}
use Rattle.hk_outside.specs.Counts.{TakesJob, IsOneMore}
use Rattle.hk_accept.specs.Serving.{Taken, AreReceived}

taken_none : (taken : Option ℕ) → Taken taken taken 0
taken_none None = tt
taken_none (Some n) = (n, refl, omega arith)

pub received_none : (taken : Option ℕ) (faults : ℕ) → AreReceived taken taken faults faults 0
received_none taken faults = record { jobs = 0; refused = 0; each = refl; started = taken_none taken; faulted = omega arith }

taken_more : (first before now : Option ℕ) (n : ℕ) → Taken first before n → IsOneMore before now → Taken first now (n + 1)
taken_more None before now n taken more = tt
taken_more (Some f) before now n (jobs, at, enough) more =
    let is = subst (λ (o : Option ℕ). IsOneMore o now) at more in
    (_, is, omega (arith, enough))

taken_same : (E : Type 0) (first before now : Option ℕ) (n : ℕ) (e : E) → Taken first before n → TakesJob before now (Err e) → Taken first now n
taken_same E None before now n e taken same = tt
taken_same E (Some f) before now n e (jobs, at, enough) same =
    let is = subst (λ (o : Option ℕ). TakesJob {E = E} o now (Err e)) at same in
    (jobs, is, enough)

-- one more got a job, or was refused one
pub received_more : {E : Type 0} (first before now : Option ℕ) (f g h n : ℕ) (result : Result (Unit {0}) E)
    → AreReceived first before f g n → TakesJob before now result → HasCause g h result → AreReceived first now f h (n + 1)
received_more first before now f g h n (Ok taken) received takes cause =
    let each = received.each in
    let faulted = received.faulted in
    let later = cause.later in
    record {
      jobs = received.jobs + 1;
      refused = received.refused;
      each = omega (arith, each);
      started = taken_more first before now received.jobs received.started takes;
      faulted = omega (arith, faulted, later);
    }
received_more first before now f g h n (Err e) received takes cause =
    let each = received.each in
    let faulted = received.faulted in
    let rose = cause.failed in
    record {
      jobs = received.jobs;
      refused = received.refused + 1;
      each = omega (arith, each);
      started = taken_same _ first before now received.jobs e received.started takes;
      faulted = omega (arith, faulted, rose);
    }
