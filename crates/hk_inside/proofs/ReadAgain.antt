-- What reading a message in its frame tells, of inquiries and of responses.
use Rattle.std.proofs.Common.{◌≡◌, ℕ, ◌≤◌, List, ◌++◌, length, take, drop, Ok, Err, arith}
use Rattle.hk_fields.specs.declared.fault.FieldFault.{FieldFault}
use Rattle.hk_fields.specs.Fields.{Fails}
use Rattle.hk_fields.proofs.Exact.{IsBytes}
use Rattle.hk_inside.specs.declared.fault.MessageFault.{MessageFault}
use Rattle.hk_inside.specs.declared.frames.TheConstants.{MAX_LEN}
use Rattle.hk_inside.specs.declared.inquiry.Inquiry.{Inquiry}
use Rattle.hk_inside.specs.declared.response.Response.{Response}
use Rattle.hk_inside.specs.Messages.{inquiry_bytes, inquiry_frame, IsInquiry, response_bytes, response_frame, IsResponse}
use Rattle.hk_inside.specs.Reading.{inquiry_at, response_at}
use Rattle.hk_inside.specs.Told.{fault_of, frame_end, IsRead, IsReadAs}
use Rattle.hk_inside.proofs.Messages.{inquiry_body, IsInRange, response_body}
use Rattle.hk_inside.proofs.Sizes.{inquiry_is, inquiry_some}
use Rattle.hk_inside.proofs.Framing.{end_error, body_error, found, found_as, error_as}

inquiry_here : (m : Inquiry) → IsInquiry m × (length (inquiry_bytes m) ≤ MAX_LEN) → IsInquiry m
inquiry_here m f = f.0

pub inquiry_end_error : (bytes : List ℕ) (fault : MessageFault) → frame_end bytes ≡ Err fault → IsRead inquiry_frame IsInquiry (Err fault) bytes
inquiry_end_error = end_error inquiry_bytes IsInquiry inquiry_at inquiry_body inquiry_some IsInquiry inquiry_is inquiry_here

pub inquiry_body_error : (bytes : List ℕ) (n : ℕ) (fault : FieldFault) → frame_end bytes ≡ Ok n → Fails fault (inquiry_at (drop 4 (take n bytes))) → IsRead inquiry_frame IsInquiry (Err (fault_of fault)) bytes
inquiry_body_error = body_error inquiry_bytes IsInquiry inquiry_at inquiry_body inquiry_some IsInquiry inquiry_is inquiry_here

pub inquiry_found : (bytes : List ℕ) (n : ℕ) (m : Inquiry) → IsBytes bytes → frame_end bytes ≡ Ok n → inquiry_at (drop 4 (take n bytes)) ≡ Ok m → IsRead inquiry_frame IsInquiry (Ok (m, n)) bytes
inquiry_found = found inquiry_bytes IsInquiry inquiry_at inquiry_body inquiry_some IsInquiry inquiry_is inquiry_here

pub inquiry_found_as : (bytes : List ℕ) (n : ℕ) (m other : Inquiry) (rest : List ℕ) → frame_end bytes ≡ Ok n → inquiry_at (drop 4 (take n bytes)) ≡ Ok m → IsInquiry other → bytes ≡ inquiry_frame other ++ rest → IsReadAs inquiry_frame (Ok (m, n)) other
inquiry_found_as = found_as inquiry_bytes IsInquiry inquiry_at inquiry_body inquiry_some IsInquiry inquiry_is inquiry_here

pub inquiry_error_as : (bytes : List ℕ) (fault : MessageFault) → IsRead inquiry_frame IsInquiry (Err fault) bytes → (other : Inquiry) (rest : List ℕ) → IsInquiry other → bytes ≡ inquiry_frame other ++ rest → IsReadAs inquiry_frame (Err fault) other
inquiry_error_as = error_as inquiry_bytes IsInquiry inquiry_at inquiry_body inquiry_some IsInquiry inquiry_is inquiry_here

response_some : (m : Response) → 1 ≤ length (response_bytes m)
response_some m = omega arith

response_there : (m : Response) → IsResponse m → IsInRange m × (length (response_bytes m) ≤ MAX_LEN)
response_there m f = (record { value = f.value; range = f.range }, f.fits)

response_here : (m : Response) → IsInRange m × (length (response_bytes m) ≤ MAX_LEN) → IsResponse m
response_here m f = record { value = f.0.value; range = f.0.range; fits = f.1 }

pub response_end_error : (bytes : List ℕ) (fault : MessageFault) → frame_end bytes ≡ Err fault → IsRead response_frame IsResponse (Err fault) bytes
response_end_error = end_error response_bytes IsInRange response_at response_body response_some IsResponse response_there response_here

pub response_body_error : (bytes : List ℕ) (n : ℕ) (fault : FieldFault) → frame_end bytes ≡ Ok n → Fails fault (response_at (drop 4 (take n bytes))) → IsRead response_frame IsResponse (Err (fault_of fault)) bytes
response_body_error = body_error response_bytes IsInRange response_at response_body response_some IsResponse response_there response_here

pub response_found : (bytes : List ℕ) (n : ℕ) (m : Response) → IsBytes bytes → frame_end bytes ≡ Ok n → response_at (drop 4 (take n bytes)) ≡ Ok m → IsRead response_frame IsResponse (Ok (m, n)) bytes
response_found = found response_bytes IsInRange response_at response_body response_some IsResponse response_there response_here

pub response_found_as : (bytes : List ℕ) (n : ℕ) (m other : Response) (rest : List ℕ) → frame_end bytes ≡ Ok n → response_at (drop 4 (take n bytes)) ≡ Ok m → IsResponse other → bytes ≡ response_frame other ++ rest → IsReadAs response_frame (Ok (m, n)) other
response_found_as = found_as response_bytes IsInRange response_at response_body response_some IsResponse response_there response_here

pub response_error_as : (bytes : List ℕ) (fault : MessageFault) → IsRead response_frame IsResponse (Err fault) bytes → (other : Response) (rest : List ℕ) → IsResponse other → bytes ≡ response_frame other ++ rest → IsReadAs response_frame (Err fault) other
response_error_as = error_as response_bytes IsInRange response_at response_body response_some IsResponse response_there response_here
