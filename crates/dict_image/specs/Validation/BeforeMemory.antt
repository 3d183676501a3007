-- The tests of an image that precede the first allocation.
use Rattle.std.specs.Prelude.{ℕ, List}
use Rattle.image_format.specs.declared.digest_test.DigestTest.{DigestTest}
use Rattle.image_format.specs.declared.header.Header.{Header}
use Rattle.image_format.specs.ImageBytes.{header_of, section}
use Rattle.image_format.specs.ImageFaults.{PassAll, prefix_tests, end_tests, header_tests, system_tests}

-- the header and sections 1 to 4 pass their tests
abbrev pub PassToSystem : Header → List ℕ → Type 0
PassToSystem h bytes = PassAll (header_tests h) × PassAll (system_tests h (section bytes 1) (section bytes 2) (section bytes 3) (section bytes 4))

-- the bytes pass all tests that precede those of the keys, the first tests that allocate
abbrev pub ReachKeys : DigestTest → List ℕ → Type 0
ReachKeys digest bytes =
    PassAll (prefix_tests (header_of bytes) bytes) × PassAll (end_tests digest (header_of bytes) bytes) × PassToSystem (header_of bytes) bytes
