-- Whether the SHA-256 of an image is tested, by the option to skip it.
use Rattle.std.specs.Prelude.{Bool, true, false}
use Rattle.image_format.specs.declared.digest_test.DigestTest.{DigestTest}
use Rattle.image_format.specs.declared.digest_test.DigestTest.TheVariants.{Verified, Skipped}

abbrev pub test_by : Bool → DigestTest
test_by true = Skipped
test_by false = Verified
