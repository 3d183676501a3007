-- The image of a command line that is at fault.
use Rattle.std.specs.Prelude.{ℕ, List, Option, None, Some, String, slice_get, string_bytes}
use Rattle.std.specs.declared.alloc.Global.{Global}
use Rattle.mj_model.specs.declared.overlay_fault.OverlayFault.{OverlayFault}
use Rattle.mj_model.specs.declared.overlay_fault.OverlayFault.TheVariants.{NotSystem, NotUser, OtherSizes}

-- a path, or that of the system dictionary's image if there is none
abbrev pub path_or : List ℕ → Option (String Global) → List ℕ
path_or dic None = dic
path_or dic (Some path) = string_bytes path

-- the path of the image at fault: the system dictionary's, or that of the user dictionary with the
-- number in the error
abbrev pub path_at_fault : List ℕ → List (String Global) → OverlayFault → List ℕ
path_at_fault dic users NotSystem = dic
path_at_fault dic users (NotUser i) = path_or dic (slice_get users i)
path_at_fault dic users (OtherSizes i) = path_or dic (slice_get users i)
