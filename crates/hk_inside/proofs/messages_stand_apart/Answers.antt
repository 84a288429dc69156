use Rattle.std.proofs.Common.{arith}
use Rattle.hk_inside.specs.Messages.{inquiry_bytes, IsInquiry, response_bytes}
use Rattle.hk_inside.specs.Reading.{inquiry_at, response_at}
use Rattle.hk_inside.proofs.Messages.{inquiry_body, IsInRange, response_body}
use Rattle.hk_inside.proofs.Sizes.{inquiry_is}
use Rattle.hk_inside.proofs.Framing.{none_begins}
use Rattle.hk_inside.proofs.messages_stand_apart.Goals as goal

pub returns-clause-inquiries : goal.returns-clause-inquiries
returns-clause-inquiries c = λ m o more f g h. none_begins inquiry_bytes IsInquiry inquiry_at inquiry_body (λ x. omega arith) m o more (inquiry_is m f) (inquiry_is o g) h

pub returns-clause-responses : goal.returns-clause-responses
returns-clause-responses c = λ m o more f g h. none_begins response_bytes IsInRange response_at response_body (λ x. omega arith) m o more (record { value = f.value; range = f.range }, f.fits) (record { value = g.value; range = g.range }, g.fits) h
