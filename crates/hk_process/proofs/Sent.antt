-- What became of frames that were sent, as the route tells it.
use Rattle.std.proofs.Common.{◌≡◌, ℕ, List, Option, Some, None, Result, Ok, Err, refl, ap, subst}
use Rattle.std.specs.Io.KnownBytes.{Appends}
use Rattle.hk_outside.specs.Causes.{Rose}
use Rattle.hk_peer.specs.declared.send.SendFault.{SendFault}
use Rattle.hk_peer.specs.declared.send.SendFault.TheVariants as sending
use Rattle.hk_peer.specs.declared.send.ForwardFault.{ForwardFault}
use Rattle.hk_peer.specs.declared.send.ForwardFault.TheVariants as forwarding
use Rattle.hk_peer.specs.Sending.{Sends, IsFront, IsWritten, Forwards}
use Rattle.hk_process.specs.Sending.{IsSentOn, IsForwarded}

module _ {C : Type 0} (held : C → Option (List ℕ)) (faults : C → ℕ) (frames : List ℕ) (conn conn' : C) where
  pub all_sent : Appends (held conn) (held conn') frames → IsSentOn held faults frames conn (Some conn')
  all_sent written = record { result = Ok tt; conn' = conn'; written = written; keeps = refl }

  pub none_sent : (fault : SendFault) → fault ≡ sending.Memory → Sends (Err fault) frames (held conn) (held conn') → IsSentOn held faults frames conn (Some conn')
  none_sent fault is sent =
      let same : held conn' ≡ held conn = subst (λ (f : SendFault). Sends (Err f) frames (held conn) (held conn')) is sent in
      record { result = Err forwarding.Memory; conn' = conn'; written = same; keeps = refl }

  pub cut : (fault : SendFault) → fault ≡ sending.WriteFault → Sends (Err fault) frames (held conn) (held conn') →
      (◌≡◌ {A = Result (Unit {0}) SendFault} (Err fault) (Err sending.WriteFault) → Rose (faults conn) (faults conn')) → IsSentOn held faults frames conn None
  cut fault is sent rose =
      let front : IsFront frames (held conn) (held conn') = subst (λ (f : SendFault). Sends (Err f) frames (held conn) (held conn')) is sent in
      record { result = Err forwarding.WriteFault; conn' = conn'; written = (front, rose (ap (λ (f : SendFault). Err f) is)); keeps = refl }

module _ {C : Type 0} (held : C → Option (List ℕ)) (read_faults write_faults : C → ℕ) (frames : List ℕ) (dial_faults dial_faults' : ℕ) where
  never_dialled : (result : Result (Unit {0}) ForwardFault) (conn conn' : C) → IsWritten held write_faults result frames conn conn' → result ≡ Err forwarding.DialFault → Rose dial_faults dial_faults'
  never_dialled result conn conn' written is = absurd (subst (λ (r : Result (Unit {0}) ForwardFault). IsWritten held write_faults r frames conn conn') is written)

  pub on_held : (conn : C) (kept : Option C) → IsSentOn held write_faults frames conn kept → IsForwarded held read_faults write_faults frames (Some conn) kept dial_faults dial_faults'
  on_held conn kept sent = record {
    result = sent.result;
    conn = Some sent.conn';
    forwarded = (sent.conn', refl, sent.written);
    dial_fault = never_dialled sent.result conn sent.conn' sent.written;
    keeps = sent.keeps;
  }

  by_result : (result : Result (Unit {0}) ForwardFault) (conn conn' : C) → read_faults conn ≡ 0 → write_faults conn ≡ 0 → IsWritten held write_faults result frames conn conn' →
      Forwards held read_faults write_faults result frames None (Some conn')
  by_result (Ok done) conn conn' reads writes written = record { conn = conn; no_read_faults = reads; no_write_faults = writes; written = (conn', refl, written) }
  by_result (Err forwarding.Memory) conn conn' reads writes written = record { conn = conn; no_read_faults = reads; no_write_faults = writes; written = (conn', refl, written) }
  by_result (Err forwarding.WriteFault) conn conn' reads writes written = record { conn = conn; no_read_faults = reads; no_write_faults = writes; written = (conn', refl, written) }
  by_result (Err forwarding.DialFault) conn conn' reads writes written = absurd written

  pub on_dialled : (conn : C) (kept : Option C) → read_faults conn ≡ 0 → write_faults conn ≡ 0 → IsSentOn held write_faults frames conn kept →
      IsForwarded held read_faults write_faults frames None kept dial_faults dial_faults'
  on_dialled conn kept reads writes sent = record {
    result = sent.result;
    conn = Some sent.conn';
    forwarded = by_result sent.result conn sent.conn' reads writes sent.written;
    dial_fault = never_dialled sent.result conn sent.conn' sent.written;
    keeps = sent.keeps;
  }

  pub not_dialled : Rose dial_faults dial_faults' → IsForwarded held read_faults write_faults frames None None dial_faults dial_faults'
  not_dialled rose = record { result = Err forwarding.DialFault; conn = None; forwarded = refl; dial_fault = λ is. rose; keeps = refl }
