-- The bytes of an image, owned or borrowed.
use Rattle.std.specs.Prelude.{ℕ, List}
use Rattle.image_format.specs.declared.borrowed.image_data.Storage.{Storage}
use Rattle.image_format.specs.declared.borrowed.image_data.Storage.TheVariants.{Owned, Borrowed}

abbrev pub image_bytes_of : Storage → List ℕ
image_bytes_of (Owned bytes) = bytes.items
image_bytes_of (Borrowed bytes) = bytes.bytes
