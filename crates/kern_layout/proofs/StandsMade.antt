-- A processor and a memory stand for each valid state, and for one only.
use Rattle.std.proofs.Common.{◌≡◌, ℕ, ◌+◌, ◌<◌, ◌≤◌, Bool, true, false, List, [], ◌∷◌, length, refl, sym, ap, ◌∙◌, arith, inl, inr, ⊎_elim}
use Rattle.std.specs.Prelude.{◌||◌, ◌&&◌, nat_le, nat_lt, map, slice_index}
use Rattle.std.specs.List.{list_any, list_all, range_with_len}
use Rattle.std.proofs.lemmas.Bool.{and_parts, or_cases, leb-true, ltb-true}
use Rattle.std.proofs.lemmas.List.FromFn.{length-map-range_with_len, get_or-map-range_with_len}
use Rattle.psx_base.specs.Addresses.{user_main, scratchpad}
use Rattle.psx_base.specs.Memory.{Memory, byte, word, put_bytes}
use Rattle.psx_base.specs.KernelState.{KernelState}
use Rattle.psx_ram.proofs.Bytes.{byte-put_bytes_at, byte-put_bytes_apart}
use Rattle.kern_layout.specs.declared.ranges.Range.{Range}
use Rattle.kern_layout.specs.Stands.{is_fixed, fixed_ranges, user_sr}
use Rattle.kern_layout.specs.StateLaws.{EachStands, StandsOne}
use Rattle.kern_layout.proofs.MemoryMade.{made_memory, byte-made_outside, reads_memory}
use Rattle.kern_layout.proofs.One.{reads_one}

-- ---- the ROM's bytes below the data ranges

below_all : (rs : List Range) (high a : ℕ) → list_all (λ (r : Range). nat_le r.to high) rs ≡ true → list_any (λ (r : Range). nat_le r.from a && nat_lt a r.to) rs ≡ true → a < high
below_all [] high a all h = absurd (Rattle.std.proofs.lemmas.Bool.false≢true h)
below_all (r ∷ rs) high a all h =
    let p = and_parts (nat_le r.to high) (list_all (λ (r : Range). nat_le r.to high) rs) all in
    ⊎_elim
    (λ q. let e = leb-true r.to high p.0 in let f = ltb-true a r.to (and_parts (nat_le r.from a) (nat_lt a r.to) q).1 in omega (arith, e, f))
    (λ q. below_all rs high a p.1 q)
    (or_cases (nat_le r.from a && nat_lt a r.to) (list_any (λ (r : Range). nat_le r.from a && nat_lt a r.to) rs) h)

fixed_below : (a : ℕ) → is_fixed a ≡ true → a < 0xB000
fixed_below a h = below_all fixed_ranges 0xB000 a refl h

user_above : (a : ℕ) → (user_main a || scratchpad a) ≡ true → 0x10000 ≤ a
user_above a h = grind arith

rom_bytes : List ℕ → ℕ → List ℕ
rom_bytes rom n = map (λ a. slice_index rom (0x10000 + a)) (range_with_len 0 n)

length-rom_bytes : (rom : List ℕ) (n : ℕ) → length (rom_bytes rom n) ≡ n
unfolding rom_bytes
length-rom_bytes rom n = length-map-range_with_len (λ a. slice_index rom (0x10000 + a)) 0 n

rom_bytes-at : (rom : List ℕ) (n a : ℕ) → a < n → slice_index (rom_bytes rom n) a ≡ slice_index rom (0x10000 + a)
unfolding rom_bytes
rom_bytes-at rom n a lt = get_or-map-range_with_len (λ k. slice_index rom (0x10000 + k)) 0 n a a 0 lt (omega arith)

rom_memory : KernelState → List ℕ → Memory
rom_memory s rom = put_bytes s.memory 0 (rom_bytes rom 0xB000)

rom_memory-code : (s : KernelState) (rom : List ℕ) (a : ℕ) → a < 0xB000 → byte (rom_memory s rom) a ≡ slice_index rom (0x10000 + a)
unfolding rom_memory
rom_memory-code s rom a lt =
    ap (byte (put_bytes s.memory 0 (rom_bytes rom 0xB000))) (let e : a ≡ 0 + a = omega arith in e)
    ∙ byte-put_bytes_at s.memory 0 (rom_bytes rom 0xB000) a (omega (arith, lt, length-rom_bytes rom 0xB000))
    ∙ rom_bytes-at rom 0xB000 a lt

rom_memory-user : (s : KernelState) (rom : List ℕ) (a : ℕ) → 0x10000 ≤ a → byte (rom_memory s rom) a ≡ byte s.memory a
unfolding rom_memory
rom_memory-user s rom a le = byte-put_bytes_apart s.memory 0 (rom_bytes rom 0xB000) a (inr (omega (arith, le, length-rom_bytes rom 0xB000)))

pub each_stands : EachStands
each_stands s v rom = (
  made_memory s (rom_memory s rom),
  record {
    context = refl;
    sr = refl;
    latch = refl;
    reads = reads_memory s v (rom_memory s rom);
    user = λ a h. byte-made_outside s (rom_memory s rom) v.line a (inr (user_above a h)) ∙ rom_memory-user s rom a (user_above a h);
    code = λ a h. byte-made_outside s (rom_memory s rom) v.line a (inl (fixed_below a h)) ∙ rom_memory-code s rom a (fixed_below a h);
  },
)

-- ---- one state

sr_one : (a b : Bool) → user_sr a ≡ user_sr b → a ≡ b
sr_one true true e = refl
sr_one true false e = absurd (let f : ◌≡◌ {A = ℕ} 0x401 0x400 = e in omega arith)
sr_one false true e = absurd (let f : ◌≡◌ {A = ℕ} 0x400 0x401 = e in omega arith)
sr_one false false e = refl

pub stands_one : StandsOne
stands_one p m rom s t v u h k =
    let context = sym h.context ∙ k.context in
    let on = sr_one s.running.interrupts t.running.interrupts (sym h.sr ∙ k.sr) in
    record {
      words = reads_one (word m) (byte m) s t v u h.reads k.reads;
      running = λ i. record { context = context i; interrupts = on i };
      user = λ a q. sym (h.user a q) ∙ k.user a q;
    }
