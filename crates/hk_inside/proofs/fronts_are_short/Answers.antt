use Rattle.std.proofs.Common.{arith}
use Rattle.hk_inside.specs.Messages.{inquiry_bytes, IsInquiry, response_bytes}
use Rattle.hk_inside.specs.Reading.{inquiry_at, response_at}
use Rattle.hk_inside.proofs.Messages.{inquiry_body, IsInRange, response_body}
use Rattle.hk_inside.proofs.Sizes.{inquiry_is}
use Rattle.hk_inside.proofs.Framing.{fronts_are_short}
use Rattle.hk_inside.proofs.fronts_are_short.Goals as goal

pub returns-clause-inquiries : goal.returns-clause-inquiries
returns-clause-inquiries c = λ m n f lt. fronts_are_short inquiry_bytes IsInquiry inquiry_at inquiry_body (λ x. omega arith) m n (inquiry_is m f) lt

pub returns-clause-responses : goal.returns-clause-responses
returns-clause-responses c = λ m n f lt. fronts_are_short response_bytes IsInRange response_at response_body (λ x. omega arith) m n (record { value = f.value; range = f.range }, f.fits) lt
