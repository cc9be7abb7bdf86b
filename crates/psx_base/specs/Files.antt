-- Files in memory.
use Rattle.std.specs.Prelude.{◌≡◌, ℕ, List, Option, Some, if◌then◌else◌}
use Rattle.std.specs.Option.{option_map}
use Rattle.std.specs.BTreeMap.{get_by_text}
use Rattle.std.specs.Str.{bytes_eq}
use Rattle.psx_base.specs.declared.files.Files.{Files}

-- the bytes under a name
abbrev pub bytes_under : Files → List ℕ → Option (List ℕ)
bytes_under f name = option_map (λ v. v.items) (get_by_text f.entries name)

-- the name has these bytes, and the other names have what they had
abbrev pub SetsFile : (List ℕ → Option (List ℕ)) → (List ℕ → Option (List ℕ)) → List ℕ → List ℕ → Type 0
SetsFile before now name bytes = (n : List ℕ) → now n ≡ (if bytes_eq name n then Some bytes else before n)

-- no file differs
abbrev pub KeepsFiles : (List ℕ → Option (List ℕ)) → (List ℕ → Option (List ℕ)) → Type 0
KeepsFiles before now = (n : List ℕ) → now n ≡ before n
