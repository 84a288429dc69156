-- Messages as bytes, and which of them there are.
use Rattle.std.specs.Prelude.{ℕ, ◌<◌, ◌≤◌, ◌^◌, List, [], ◌∷◌, ◌++◌, length, All, ⊤}
use Rattle.std.specs.Int.{w16, w32, w64, to_be_bytes}
use Rattle.std.specs.List.{flat_map}
use Rattle.hk_fields.specs.Fields.{IsTicket, host_bytes, IsHostValue}
use Rattle.hk_inside.specs.declared.inquiry.Inquiry.{Inquiry}
use Rattle.hk_inside.specs.declared.inquiry.Inquiry.TheVariants as asks
use Rattle.hk_inside.specs.declared.response.Response.{Response}
use Rattle.hk_inside.specs.declared.response.Response.TheVariants as answers
use Rattle.hk_inside.specs.declared.refusal.ManagerRefusal.{ManagerRefusal}
use Rattle.hk_inside.specs.declared.refusal.ManagerRefusal.TheVariants as refusals
use Rattle.hk_inside.specs.declared.frames.TheConstants.{MAX_LEN}
use Rattle.hk_inside.specs.Parts.{leaver_bytes, IsLeaverValue, IsLeaverInRange, state_bytes, IsStateValue, report_bytes, IsReportValue, IsReportInRange, board_bytes, IsBoardValue, IsBoardInRange}

-- a frame: the length of what follows, in 4 bytes, and that
abbrev pub framed : List ℕ → List ℕ
framed message = to_be_bytes w32 (length message) ++ message

-- ---- inquiries

abbrev pub inquiry_kind : Inquiry → ℕ
inquiry_kind (asks.Report report) = 1
inquiry_kind (asks.Seat ticket) = 2
inquiry_kind (asks.Claim node ticket) = 3
inquiry_kind (asks.Look founding) = 4
inquiry_kind (asks.Found founding hosts) = 5
inquiry_kind (asks.Leave leaver) = 6
inquiry_kind asks.Status = 7

abbrev pub inquiry_fields : Inquiry → List ℕ
inquiry_fields (asks.Report report) = report_bytes report
inquiry_fields (asks.Seat ticket) = ticket.0
inquiry_fields (asks.Claim node ticket) = to_be_bytes w16 node.0 ++ ticket.0
inquiry_fields (asks.Look founding) = to_be_bytes w64 founding
inquiry_fields (asks.Found founding hosts) = to_be_bytes w64 founding ++ (length hosts ∷ flat_map host_bytes hosts)
inquiry_fields (asks.Leave leaver) = leaver_bytes leaver
inquiry_fields asks.Status = []

-- the kind in 1 byte, and the fields
abbrev pub inquiry_bytes : Inquiry → List ℕ
inquiry_bytes inquiry = inquiry_kind inquiry ∷ inquiry_fields inquiry

abbrev pub inquiry_frame : Inquiry → List ℕ
inquiry_frame inquiry = framed (inquiry_bytes inquiry)

-- what the type keeps
abbrev pub IsInquiryValue : Inquiry → Type 0
IsInquiryValue (asks.Report report) = IsReportValue report
IsInquiryValue (asks.Seat ticket) = IsTicket ticket
IsInquiryValue (asks.Claim node ticket) = (node.0 < 2 ^ 16) × IsTicket ticket
IsInquiryValue (asks.Look founding) = founding < 2 ^ 64
IsInquiryValue (asks.Found founding hosts) = (founding < 2 ^ 64) × All IsHostValue hosts
IsInquiryValue (asks.Leave leaver) = IsLeaverValue leaver
IsInquiryValue asks.Status = ⊤

-- foundings are not 0, and there are 1 to 9 hosts
abbrev pub IsInquiryInRange : Inquiry → Type 0
IsInquiryInRange (asks.Report report) = IsReportInRange report
IsInquiryInRange (asks.Seat ticket) = ⊤
IsInquiryInRange (asks.Claim node ticket) = ⊤
IsInquiryInRange (asks.Look founding) = 1 ≤ founding
IsInquiryInRange (asks.Found founding hosts) = (1 ≤ founding) × (1 ≤ length hosts) × (length hosts ≤ 9)
IsInquiryInRange (asks.Leave leaver) = IsLeaverInRange leaver
IsInquiryInRange asks.Status = ⊤

pub record IsInquiry (inquiry : Inquiry) : Type 0 where
  pub value : IsInquiryValue inquiry
  pub range : IsInquiryInRange inquiry

-- ---- responses

abbrev pub response_kind : Response → ℕ
response_kind answers.Yes = 128
response_kind (answers.Board board) = 129
response_kind (answers.Seated node) = 130
response_kind (answers.State state) = 132
response_kind (answers.Status text) = 135
response_kind (answers.No code text) = 143

abbrev pub response_fields : Response → List ℕ
response_fields answers.Yes = []
response_fields (answers.Board board) = board_bytes board
response_fields (answers.Seated node) = to_be_bytes w16 node.0
response_fields (answers.State state) = state_bytes state
response_fields (answers.Status text) = text
response_fields (answers.No code text) = code ∷ text

-- the kind in 1 byte, and the fields
abbrev pub response_bytes : Response → List ℕ
response_bytes response = response_kind response ∷ response_fields response

abbrev pub response_frame : Response → List ℕ
response_frame response = framed (response_bytes response)

-- what the type keeps
abbrev pub IsResponseValue : Response → Type 0
IsResponseValue answers.Yes = ⊤
IsResponseValue (answers.Board board) = IsBoardValue board
IsResponseValue (answers.Seated node) = node.0 < 2 ^ 16
IsResponseValue (answers.State state) = IsStateValue state
IsResponseValue (answers.Status text) = ⊤
IsResponseValue (answers.No code text) = code < 2 ^ 8

-- managers are 0 to 8, and codes 1 to 12
abbrev pub IsResponseInRange : Response → Type 0
IsResponseInRange answers.Yes = ⊤
IsResponseInRange (answers.Board board) = IsBoardInRange board
IsResponseInRange (answers.Seated node) = ⊤
IsResponseInRange (answers.State state) = state.place < 9
IsResponseInRange (answers.Status text) = ⊤
IsResponseInRange (answers.No code text) = (1 ≤ code) × (code ≤ 12)

-- a response that fits its frame
pub record IsResponse (response : Response) : Type 0 where
  pub value : IsResponseValue response
  pub range : IsResponseInRange response
  pub fits : length (response_bytes response) ≤ MAX_LEN

-- ---- refusals

-- the code by which NO tells a refusal
abbrev pub refusal_code : ManagerRefusal → ℕ
refusal_code (refusals.Lives founding) = 1
refusal_code (refusals.OtherLease address) = 2
refusal_code (refusals.NodeIsReady node) = 3
refusal_code (refusals.LeaseMayRun left) = 4
refusal_code refusals.NoSuchMember = 5
refusal_code refusals.NoOtherIsReady = 6
refusal_code (refusals.Taken number) = 7
refusal_code refusals.Wait = 8
refusal_code refusals.NoMajority = 9
refusal_code refusals.AnotherInit = 10
