-- The sizes that a configuration text gives, or its first fault (PSX-SPX, SYSTEM.CNF; the form of a line, the limits and the ranges are this project's own).
use Rattle.std.specs.Prelude.{◌≡◌, ◌≢◌, ◌⊎◌, ℕ, ◌+◌, ◌<◌, ◌≤◌, Bool, ◌||◌, ◌==◌, List, [], ◌∷◌, ◌++◌, length, drop, map, codes, slice_get, slice_index_or, Result, Ok, Err}
use Rattle.std.specs.List.{AllPass, AllZip, prefix_len, slice_split}
use Rattle.std.specs.Str.Lines.{strip_carriage_return}
use Rattle.std.specs.Str.Parse.{IsNumeral, digits_value}
use Rattle.psx_base.specs.declared.stop.Sizes.{Sizes}
use Rattle.psxk_run.specs.declared.configuration.Setting.{Setting}
use Rattle.psxk_run.specs.declared.configuration.Setting.TheVariants.{Nothing, Threads, Events}
use Rattle.psxk_run.specs.declared.configuration.Kept.{Kept}
use Rattle.psxk_run.specs.declared.configuration.ConfError.{ConfError}
use Rattle.psxk_run.specs.declared.configuration.ConfError.TheVariants.{TooLong, BadLine, Range}

-- the most bytes that a text may have
abbrev pub longest : ℕ
longest = 4194304

-- the lines of a text, parted by line feeds, each without one carriage return at its end
abbrev pub config_lines : List ℕ → List (List ℕ)
config_lines text = map strip_carriage_return (slice_split (λ b. b == 10) text)

-- a space or a tab
abbrev pub is_blank : ℕ → Bool
is_blank b = b == 32 || b == 9

-- a text behind its first blanks
abbrev pub behind : List ℕ → List ℕ
behind text = drop (prefix_len is_blank text) text

-- a line is blanks, a key, blanks, `=` and a value
pub record Assigns (line key value : List ℕ) : Type 0 where
  pub before : List ℕ
  pub between : List ℕ
  pub before_blank : AllPass is_blank before
  pub between_blank : AllPass is_blank between
  pub is : line ≡ before ++ (key ++ (between ++ (codes "=" ++ value)))

-- a value is one to eight hexadecimal digits of a number, of either case, between blanks
pub record IsHexadecimal (value : List ℕ) (n : ℕ) : Type 0 where
  pub before : List ℕ
  pub digits : List ℕ
  pub after : List ℕ
  pub before_blank : AllPass is_blank before
  pub after_blank : AllPass is_blank after
  pub numeral : IsNumeral 16 digits
  pub short : length digits ≤ 8
  pub number : n ≡ digits_value 16 digits
  pub is : value ≡ before ++ (digits ++ after)

-- a line assigns something to a key
abbrev pub HasKey : List ℕ → List ℕ → Type 0
HasKey line key = (value : List ℕ) × Assigns line key value

-- a line assigns a number to a key
abbrev pub HasNumber : List ℕ → List ℕ → ℕ → Type 0
HasNumber line key n = (value : List ℕ) × Assigns line key value × IsHexadecimal value n

-- what a line says: nothing where it is blank, or a key whose value isn't looked at; a number of threads; a number of events
abbrev pub Says : List ℕ → Setting → Type 0
Says line Nothing = AllPass is_blank line ⊎ (HasKey line (codes "BOOT") ⊎ HasKey line (codes "STACK"))
Says line (Threads n) = HasNumber line (codes "TCB") n
Says line (Events n) = HasNumber line (codes "EVENT") n

-- the numbers of threads that lines say, in order
abbrev pub threads_of : List Setting → List ℕ
threads_of [] = []
threads_of (Threads n ∷ more) = n ∷ threads_of more
threads_of (Events n ∷ more) = threads_of more
threads_of (Nothing ∷ more) = threads_of more

-- the numbers of events
abbrev pub events_of : List Setting → List ℕ
events_of [] = []
events_of (Events n ∷ more) = n ∷ events_of more
events_of (Threads n ∷ more) = events_of more
events_of (Nothing ∷ more) = events_of more

-- a number is said once at most, and is in its range
abbrev pub IsOnce : ℕ → ℕ → List ℕ → Type 0
IsOnce least most [] = Unit {0}
IsOnce least most (n ∷ []) = (least ≤ n) × (n ≤ most)
IsOnce least most (n ∷ m ∷ more) = ⊥

-- settings of which none is faulty
pub record AreRight (settings : List Setting) : Type 0 where
  pub threads : IsOnce 4 16 (threads_of settings)
  pub events : IsOnce 16 64 (events_of settings)

-- the lines of a text are right, and these are the sizes that they say: 4 threads and 16 events where they say none
pub record Gives (text : List ℕ) (sizes : Sizes) : Type 0 where
  pub settings : List Setting
  pub said : AllZip Says (config_lines text) settings
  pub right : AreRight settings
  pub threads : sizes.threads ≡ slice_index_or (threads_of settings) 0 4
  pub events : sizes.events ≡ slice_index_or (events_of settings) 0 16

-- a setting that was said before
abbrev pub IsSecond : List Setting → Setting → Type 0
IsSecond before Nothing = ⊥
IsSecond before (Threads n) = threads_of before ≢ []
IsSecond before (Events n) = events_of before ≢ []

-- a setting out of its range
abbrev pub IsOutside : Setting → Type 0
IsOutside Nothing = ⊥
IsOutside (Threads n) = (n < 4) ⊎ (16 < n)
IsOutside (Events n) = (n < 16) ⊎ (64 < n)

-- what is wrong with a line of this number behind lines that say settings: it says no setting, or one that was said before; or a number out of its range
abbrev pub IsLineFault : List Setting → List ℕ → ℕ → ConfError → Type 0
IsLineFault before line number (BadLine at) = (at ≡ number) × (((s : Setting) → ¬ Says line s) ⊎ ((s : Setting) × Says line s × IsSecond before s))
IsLineFault before line number (Range at) = (at ≡ number) × ((s : Setting) × Says line s × (¬ IsSecond before s) × IsOutside s)
IsLineFault before line number (TooLong limit) = ⊥

-- the first line that is faulty: those before it are right
pub record IsFirstFault (text : List ℕ) (fault : ConfError) : Type 0 where
  pub before : List (List ℕ)
  pub line : List ℕ
  pub after : List (List ℕ)
  pub settings : List Setting
  pub split : config_lines text ≡ before ++ line ∷ after
  pub said : AllZip Says before settings
  pub right : AreRight settings
  pub wrong : IsLineFault settings line (length before + 1) fault

-- the sizes that a text gives, or its first fault, of which its length comes first
abbrev pub IsConfigOf : List ℕ → Result Sizes ConfError → Type 0
IsConfigOf text (Ok sizes) = (length text ≤ longest) × Gives text sizes
IsConfigOf text (Err (TooLong limit)) = (longest < length text) × (limit ≡ longest)
IsConfigOf text (Err fault) = (length text ≤ longest) × IsFirstFault text fault

-- what a reader keeps of the settings that were said: none of them is faulty, and these are the sizes, where they are said
pub record IsKept (settings : List Setting) (kept : Kept) : Type 0 where
  pub right : AreRight settings
  pub threads : kept.threads ≡ slice_get (threads_of settings) 0
  pub events : kept.events ≡ slice_get (events_of settings) 0

-- what is wrong with one more setting, in a line of this number
abbrev pub IsSettingFault : List Setting → Setting → ℕ → ConfError → Type 0
IsSettingFault before s number (BadLine at) = (at ≡ number) × IsSecond before s
IsSettingFault before s number (Range at) = (at ≡ number) × (¬ IsSecond before s) × IsOutside s
IsSettingFault before s number (TooLong limit) = ⊥
