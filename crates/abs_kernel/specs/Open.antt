-- open (PSX-SPX, Kernel (BIOS), File Functions: open). The mode is looked at before the name, and the name before a file is looked for.
use Rattle.std.specs.Prelude.{ℕ, ◌||◌, nat_eq, nat_lt, List, [], ◌∷◌, ◌++◌, codes, Option, Some, None, is_none, if◌then◌else◌}
use Rattle.std.specs.List.{position}
use Rattle.psx_base.specs.KernelState.{KernelState}
use Rattle.abs_kernel.specs.Stay.{Stay}
use Rattle.abs_kernel.specs.Answered.{registers_of, answered}
use Rattle.abs_kernel.specs.UserBytes.{reads_byte, following}
use Rattle.abs_kernel.specs.Files.{with_file, refuses, no_device, bad_mode, no_file_left}

-- the console's name, and the zero behind it
abbrev pub console_name : List ℕ
console_name = codes "tty00:" ++ 0 ∷ []

-- the lowest number whose file isn't open
abbrev pub free_file : List (Option ℕ) → Option ℕ
free_file files = position is_none files

-- that file is opened and its number answered, where there is one
abbrev pub opens : Option ℕ → (mode : ℕ) → KernelState → Stay
opens None mode s = refuses s no_file_left
opens (Some number) mode s = answered (with_file s number (Some mode)) number

-- the bytes at an address are to be those of a name: the first one that differs refuses
abbrev pub opens_named : (name : List ℕ) → (mode : ℕ) → KernelState → (at : ℕ) → Stay
opens_named [] mode s at = opens (free_file s.files) mode s
opens_named (c ∷ name) mode s at = reads_byte s at (λ b. if nat_eq b c then opens_named name mode s (following at) else refuses s no_device)

-- open(name, mode) opens a file for the console, with the mode 1 for reading, 2 for writing or 3 for both, and answers its number
abbrev pub open_file : KernelState → Stay
open_file s =
    let r = registers_of s in
    if nat_eq r.r5 0 || nat_lt 3 r.r5 then refuses s bad_mode
    else if nat_eq r.r4 0 then refuses s no_device
    else opens_named console_name r.r5 s r.r4
