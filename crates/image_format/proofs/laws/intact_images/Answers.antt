use Rattle.image_format.proofs.ImageFaultLaws.{intact_of, well_formed_of}
use Rattle.image_format.proofs.laws.intact_images.Goals as goal

pub returns : goal.returns
returns c = λ bytes. (well_formed_of bytes, intact_of bytes)
