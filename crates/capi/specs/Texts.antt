-- The texts of error codes.
use Rattle.std.specs.Prelude.{ℕ, List, [], ◌∷◌, ◌++◌, codes, ◌==◌, if◌then◌else◌}
use Rattle.mj_model.specs.FaultWords.{Words}
use Rattle.capi.specs.CallWords.{call_words}
use Rattle.capi.specs.Codes.{call_code, memory}
use Rattle.capi.specs.declared.fault.CallFault.{CallFault}

-- code and name as one text
abbrev pub text_of : Words → List ℕ
text_of words = words.code ++ 0x20 ∷ words.name

-- the text of an error; `Memory` has only a name
abbrev pub fault_text : CallFault → List ℕ
fault_text fault = if call_code fault == memory then codes "Memory" else text_of (call_words fault)

-- the text of a code, or nothing if no error has it
abbrev pub text_at : ℕ → List ℕ
text_at code =
    if code == 0x0001 then codes "Memory"
    else if code == 0x4c01 then codes "L1 Truncated"
    else if code == 0x4c02 then codes "L2 BadMagic"
    else if code == 0x4c03 then codes "L3 BadLayout"
    else if code == 0x4c04 then codes "L4 BadSection"
    else if code == 0x4c05 then codes "L5 BadKey"
    else if code == 0x4c06 then codes "L6 BadToken"
    else if code == 0x4c07 then codes "L7 BadText"
    else if code == 0x4c08 then codes "L8 Digest"
    else if code == 0x4f01 then codes "O1 NotSystem"
    else if code == 0x4f02 then codes "O2 NotUser"
    else if code == 0x4f03 then codes "O3 OtherSizes"
    else if code == 0x5001 then codes "P1 BadEscape"
    else if code == 0x5002 then codes "P2 BadItem"
    else if code == 0x5003 then codes "P3 BadIndex"
    else if code == 0x4703 then codes "G3 NotUtf8"
    else if code == 0x4704 then codes "G4 TooLong"
    else if code == 0x4b01 then codes "K1 LineFeed"
    else if code == 0x4b02 then codes "K2 NothingSegmented"
    else if code == 0x4b03 then codes "K3 Shared"
    else if code == 0x4b04 then codes "K4 BadGrouping"
    else if code == 0x4b05 then codes "K5 EmptySegmenter"
    else if code == 0x4b06 then codes "K6 FullSegmenter"
    else if code == 0x4b07 then codes "K7 ShortBuffer"
    else if code == 0x4b08 then codes "K8 NoWord"
    else []
