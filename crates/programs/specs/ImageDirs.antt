-- Image directories: the directories that are searched for the image of a bare name.
use Rattle.std.specs.Prelude.{◌≡◌, ◌≢◌, ◌⊎◌, ℕ, All, Contains, ◌==◌, List, [], ◌∷◌, ◌++◌, Option, Some, None, option_map, option_and_then, option_to_list, String, string_bytes, bytes_eq, slice_index, codes, if◌then◌else◌}
use Rattle.std.specs.List.{list_any}
use Rattle.std.specs.Path.{path_parent, slash}
use Rattle.std.specs.declared.alloc.Global.{Global}
use Rattle.programs.specs.declared.environment.Environment.{Environment}

-- the installation prefix of a program that lies in a subdirectory of it; empty if that is the root
abbrev pub prefix_of : List ℕ → Option (List ℕ)
prefix_of program = option_map (λ prefix. if bytes_eq prefix (codes "/") then [] else prefix) (option_and_then path_parent (path_parent program))

-- a path that is known and absolute
abbrev pub absolute : Option (String Global) → Option (List ℕ)
absolute None = None
absolute (Some path) = (if slice_index (string_bytes path) 0 == slash then Some (string_bytes path) else None)

-- the image directory below the user's data directory, or else below the home directory
abbrev pub image_dir_in : Option (List ℕ) → Option (List ℕ) → Option (List ℕ)
image_dir_in (Some own) home = Some (own ++ codes "/kumquatsieve")
image_dir_in None (Some home) = Some (home ++ codes "/.local/share/kumquatsieve")
image_dir_in None None = None

-- the user's image directory
abbrev pub user_image_dir : Environment → Option (List ℕ)
user_image_dir s = image_dir_in (absolute s.data_home) (absolute s.home)

-- the directory of images built on the system, for this installation prefix
abbrev pub local_image_dir : List ℕ → List ℕ
local_image_dir prefix = (if bytes_eq prefix (codes "/usr") then [] else prefix) ++ codes "/var/lib/kumquatsieve"

-- the directory of images installed with the program
abbrev pub shared_image_dir : List ℕ → List ℕ
shared_image_dir prefix = prefix ++ codes "/share/kumquatsieve"

-- the directories with a further one, unless it is among them
abbrev pub with_image_dir : List (List ℕ) → List ℕ → List (List ℕ)
with_image_dir image_dirs dir = (if list_any (λ one. bytes_eq one dir) image_dirs then image_dirs else image_dirs ++ dir ∷ [])

-- the directories followed by those of the system
abbrev pub with_system : Option (String Global) → List (List ℕ) → List (List ℕ)
with_system None image_dirs = image_dirs
with_system (Some prefix) image_dirs = with_image_dir (with_image_dir image_dirs (local_image_dir (string_bytes prefix))) (shared_image_dir (string_bytes prefix))

-- all image directories in search order
abbrev pub image_dirs_of : Environment → List (List ℕ)
image_dirs_of s = with_system s.prefix (option_to_list (user_image_dir s))

-- the path of the image `name` in `folder`
abbrev pub image_in : List ℕ → List ℕ → List ℕ
image_in folder name = folder ++ codes "/" ++ name ++ codes ".img"

-- a folder is an image directory in some environment
abbrev pub IsImageDir : List ℕ → Type 0
IsImageDir folder = (here : Environment) × Contains (image_dirs_of here) folder

-- the path of a named image: the name itself, or the path of its image in an image directory
abbrev pub IsPathFor : List ℕ → List ℕ → Type 0
IsPathFor name path = (path ≡ name) ⊎ ((folder : List ℕ) × IsImageDir folder × (path ≡ image_in folder name))

-- a name that may be searched for in image directories: not empty and without a slash
abbrev pub IsBare : List ℕ → Type 0
IsBare name = (name ≢ []) × All (λ byte. byte ≢ slash) name

-- all names are bare
abbrev pub AreBare : List (String Global) → Type 0
AreBare names = All (λ name. IsBare (string_bytes name)) names
