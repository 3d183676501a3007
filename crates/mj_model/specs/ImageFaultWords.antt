-- The code and the name of each error of images and of overlays, as they are printed.
use Rattle.std.specs.Prelude.{codes}
use Rattle.mj_model.specs.declared.image_fault.ImageFault.{ImageFault}
use Rattle.mj_model.specs.declared.image_fault.ImageFault.TheVariants as image
use Rattle.mj_model.specs.declared.overlay_fault.OverlayFault.{OverlayFault}
use Rattle.mj_model.specs.declared.overlay_fault.OverlayFault.TheVariants.{NotSystem, NotUser, OtherSizes}
use Rattle.mj_model.specs.FaultWords.{Words}

abbrev pub image_words : ImageFault → Words
image_words image.Truncated = record { code = codes "L1"; name = codes "Truncated" }
image_words image.BadMagic = record { code = codes "L2"; name = codes "BadMagic" }
image_words (image.BadLayout layout) = record { code = codes "L3"; name = codes "BadLayout" }
image_words (image.BadSection section) = record { code = codes "L4"; name = codes "BadSection" }
image_words (image.BadKey key) = record { code = codes "L5"; name = codes "BadKey" }
image_words (image.BadToken token) = record { code = codes "L6"; name = codes "BadToken" }
image_words (image.BadText token) = record { code = codes "L7"; name = codes "BadText" }
image_words image.Digest = record { code = codes "L8"; name = codes "Digest" }
image_words image.Memory = record { code = codes "Memory"; name = codes "Memory" }

abbrev pub overlay_words : OverlayFault → Words
overlay_words NotSystem = record { code = codes "O1"; name = codes "NotSystem" }
overlay_words (NotUser i) = record { code = codes "O2"; name = codes "NotUser" }
overlay_words (OtherSizes i) = record { code = codes "O3"; name = codes "OtherSizes" }
