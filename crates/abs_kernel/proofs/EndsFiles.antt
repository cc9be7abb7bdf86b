-- The ends of the calls on files and the console.
use Rattle.std.proofs.Common.{◌≡◌, ℕ, zero, suc, ◌%◌, ◌^◌, Bool, false, arith, Option, Some, None, ◌≤◌, List, [], ◌∷◌, ◌++◌, length}
use Rattle.std.specs.Prelude.{◌+◌, ◌||◌, nat_eq, nat_lt, is_some, slice_set, if◌then◌else◌, ◌-◌}
use Rattle.std.proofs.lemmas.List.{length_push}
use Rattle.psx_base.specs.declared.stop.Stop.{Stop}
use Rattle.psx_base.specs.Memory.{Memory, byte, put_byte}
use Rattle.psx_base.specs.Addresses.{place, user}
use Rattle.psx_base.specs.Context.{Context, IsAtRest}
use Rattle.psx_base.specs.KernelState.{KernelState}
use Rattle.abs_kernel.specs.Answered.{registers_of, answered, waits}
use Rattle.abs_kernel.specs.Stay.{Stay}
use Rattle.abs_kernel.specs.UserBytes.{with_byte, following, count_of}
use Rattle.abs_kernel.specs.Puts.{write_text}
use Rattle.abs_kernel.specs.Files.{file, is_writable, refuses, bad_file, no_device, bad_mode, no_file_left, is_readable}
use Rattle.abs_kernel.specs.Open.{console_name, free_file, opens, opens_named, open_file}
use Rattle.abs_kernel.specs.Close.{close}
use Rattle.abs_kernel.specs.Putc.{putc}
use Rattle.abs_kernel.specs.WriteFile.{write_bytes, write}
use Rattle.abs_kernel.specs.ConsoleBytes.{takes_byte}
use Rattle.abs_kernel.specs.Getchar.{getchar}
use Rattle.abs_kernel.specs.Gets.{with_line, store_bytes, gives_line, ends_line, gather_line, gets}
use Rattle.abs_kernel.specs.Getc.{getc}
use Rattle.abs_kernel.specs.ReadFile.{read_bytes, read}
use Rattle.abs_kernel.proofs.Filed.{FilesFit, files_same, files_set}
use Rattle.abs_kernel.specs.StayLaws.{EachEnd}
use Rattle.abs_kernel.proofs.Ending.{running_in, LineFits, if_ends, if_ends_by, answered_ends, waits_ends}

-- a mode that open takes
pub mode_fits : (mode : ℕ) → (nat_eq mode 0 || nat_lt 3 mode) ≡ false → (1 ≤ mode) × (mode ≤ 3)
mode_fits mode h = grind arith

-- ---- one that reads user memory or the console

module _ (P : KernelState → Type 0) (Q : Stop → Memory → Type 0) (s : KernelState)
    (halts : (stop : Stop) → Q stop s.memory) (returns : (c : Context) (on : Bool) → IsAtRest c → P (running_in s c on)) where
  -- a call that answers at once
  pub at_once : (value : ℕ) → EachEnd P Q (answered s value)
  at_once = answered_ends P Q s halts returns

  pub written_ends : (n at : ℕ) → EachEnd P Q (write_text n s at)
  written_ends zero at = halts _
  written_ends (suc n) at = if_ends P Q (user at) _ _ (if_ends P Q (nat_eq (byte s.memory (place at)) 0) _ _ (at_once 0) (written_ends n (following at))) (halts _)

  pub taken_ends : (without : Stay) (next : ℕ → Stay) → EachEnd P Q without → ((b : ℕ) → EachEnd P Q (next b)) → EachEnd P Q (takes_byte without next)
  taken_ends without next h g = λ status. if_ends P Q (nat_eq status 0) _ _ h (λ value. g (value % 2 ^ 8))

  pub getchar_ends : EachEnd P Q (getchar s)
  getchar_ends = taken_ends (waits s) (λ b. answered s b) (waits_ends P Q s halts returns) at_once

-- ---- one that changes the files or the last error

module _ (P : KernelState → Type 0) (Q : Stop → Memory → Type 0) (s : KernelState) (halts : (stop : Stop) → Q stop s.memory)
    (returns : (files : List (Option ℕ)) (errno : ℕ) (c : Context) (on : Bool) → FilesFit s.files files → IsAtRest c → P (running_in (record s { files = files; errno = errno }) c on)) where
  pub filed : (files : List (Option ℕ)) (errno value : ℕ) → FilesFit s.files files → EachEnd P Q (answered (record s { files = files; errno = errno }) value)
  filed files errno value fit = answered_ends P Q (record s { files = files; errno = errno }) halts (λ c on r. returns files errno c on fit r) value

  pub refused_ends : (error : ℕ) → EachEnd P Q (refuses s error)
  refused_ends error = filed s.files error _ (files_same s.files)

  pub opened_ends : (o : Option ℕ) (mode : ℕ) → (1 ≤ mode) × (mode ≤ 3) → EachEnd P Q (opens o mode s)
  opened_ends None mode fit = refused_ends no_file_left
  opened_ends (Some n) mode fit = filed (slice_set s.files n (Some mode)) s.errno n (files_set s.files n (Some mode) fit)

  pub named_ends : (name : List ℕ) (mode at : ℕ) → (1 ≤ mode) × (mode ≤ 3) → EachEnd P Q (opens_named name mode s at)
  named_ends [] mode at fit = opened_ends (free_file s.files) mode fit
  named_ends (c ∷ name) mode at fit = if_ends P Q (user at) _ _ (if_ends P Q (nat_eq (byte s.memory (place at)) c) _ _ (named_ends name mode (following at) fit) (refused_ends no_device)) (halts _)

  pub open_ends : EachEnd P Q (open_file s)
  open_ends = let r = registers_of s in
      if_ends_by P Q (nat_eq r.r5 0 || nat_lt 3 r.r5) _ _ (λ e. refused_ends bad_mode)
      (λ e. if_ends P Q (nat_eq r.r4 0) _ _ (refused_ends no_device) (named_ends console_name r.r5 r.r4 (mode_fits r.r5 e)))

  pub close_ends : EachEnd P Q (close s)
  close_ends = let f = (registers_of s).r4 in if_ends P Q (is_some (file s f)) _ _ (filed (slice_set s.files f None) s.errno f (files_set s.files f None tt)) (refused_ends bad_file)

  pub sent_ends : (n at value : ℕ) → EachEnd P Q (write_bytes n s at value)
  sent_ends zero at value = filed s.files s.errno value (files_same s.files)
  sent_ends (suc n) at value = if_ends P Q (user at) _ _ (sent_ends n (following at) value) (halts _)

  pub write_ends : EachEnd P Q (write s)
  write_ends = let r = registers_of s in if_ends P Q (is_writable (file s r.r4)) _ _ (sent_ends (count_of r.r6) r.r5 (count_of r.r6)) (refused_ends bad_file)

  pub getc_ends : EachEnd P Q (getc s)
  getc_ends = if_ends P Q (is_readable (file s (registers_of s).r4)) _ _ (getchar_ends P Q s halts (λ c on r. returns s.files s.errno c on (files_same s.files) r)) (refused_ends bad_file)

  pub putc_ends : EachEnd P Q (putc s)
  putc_ends = let r = registers_of s in if_ends P Q (is_writable (file s r.r5)) _ _ (filed s.files s.errno (r.r4 % 2 ^ 8) (files_same s.files)) (refused_ends bad_file)

-- ---- one that changes the user's memory and the last error

module _ (P : KernelState → Type 0) (Q : Stop → Memory → Type 0) (s : KernelState)
    (halts : (stop : Stop) (m : Memory) → Q stop m) (returns : (m : Memory) (errno : ℕ) (c : Context) (on : Bool) → IsAtRest c → P (running_in (record s { memory = m; errno = errno }) c on)) where
  pub input : (m : Memory) (errno value : ℕ) → EachEnd P Q (answered (record s { memory = m; errno = errno }) value)
  input m errno value = answered_ends P Q (record s { memory = m; errno = errno }) (λ stop. halts stop m) (returns m errno) value

  pub came_ends : (n : ℕ) (m : Memory) (at came : ℕ) → EachEnd P Q (read_bytes n (record s { memory = m }) at came)
  came_ends zero m at came = input m s.errno came
  came_ends (suc n) m at came =
      let t : KernelState = record s { memory = m } in
      let more = came_ends n in
      if_ends P Q (user at) _ _
      (taken_ends P Q t (λ stop. halts stop m) (returns m s.errno) (if nat_eq came 0 then waits t else answered t came) (λ b. read_bytes n (with_byte t at b) (following at) (came + 1))
      (if_ends P Q (nat_eq came 0) _ _ (waits_ends P Q t (λ stop. halts stop m) (returns m s.errno)) (input m s.errno came))
      (λ b. more (put_byte m (place at) b) (following at) (came + 1)))
      (halts _ _)

  pub read_ends : EachEnd P Q (read s)
  read_ends = let r = registers_of s in if_ends P Q (is_readable (file s r.r4)) _ _ (came_ends (count_of r.r6) s.memory r.r5 0) (input s.memory bad_file _)

-- ---- one that changes the user's memory and the line

module _ (P : KernelState → Type 0) (Q : Stop → Memory → Type 0) (s : KernelState)
    (halts : (stop : Stop) (m : Memory) → Q stop m)
    (returns : (m : Memory) (line : List ℕ) → LineFits s line → (c : Context) (on : Bool) → IsAtRest c → P (running_in (record s { memory = m; line = line }) c on)) where
  pub stored_ends : (bytes : List ℕ) (m : Memory) (at value : ℕ) → EachEnd P Q (store_bytes bytes (record s { memory = m; line = [] }) at (λ t. answered t value))
  stored_ends [] m at value = answered_ends P Q (record s { memory = m; line = [] }) (λ stop. halts stop m) (returns m [] (λ q. omega arith)) value
  stored_ends (b ∷ bytes) m at value = if_ends P Q (user at) _ _ (stored_ends bytes (put_byte m (place at) (b % 2 ^ 8)) (following at) value) (halts _ _)

  pub given_ends : (kept line : List ℕ) → EachEnd P Q (gives_line (record s { line = kept }) line)
  given_ends kept line = stored_ends (line ++ 0 ∷ []) s.memory (registers_of s).r4 (registers_of s).r4

  pub gathered_ends : (n : ℕ) (line : List ℕ) → (length s.line ≤ 254 → n + length line ≡ 255) → EachEnd P Q (gather_line n (record s { line = line }))
  gathered_ends zero line h = given_ends line line
  gathered_ends (suc n) line h =
      let t : KernelState = record s { line = line } in
      let alone = returns s.memory line (λ q. (let few = h q in omega (arith, few))) in
      let more = gathered_ends n in
      let next : ℕ → Stay = λ b. if ends_line b then gives_line t line else gather_line n (with_line t (line ++ b ∷ [])) in
      taken_ends P Q t (λ stop. halts stop s.memory) alone (waits t) next (waits_ends P Q t (λ stop. halts stop s.memory) alone)
      (λ b. if_ends P Q (ends_line b) (gives_line t line) (gather_line n (with_line t (line ++ b ∷ []))) (given_ends line line)
      (more (line ++ b ∷ []) (λ q. (let few = h q in let e = length_push line b in omega (arith, few, e)))))

  pub gets_ends : EachEnd P Q (gets s)
  gets_ends =
      if_ends P Q (nat_eq (registers_of s).r4 0) _ _ (answered_ends P Q s (λ stop. halts stop s.memory) (returns s.memory s.line (λ q. q)) 0)
      (gathered_ends (255 - length s.line) s.line (λ q. omega (arith, q)))
