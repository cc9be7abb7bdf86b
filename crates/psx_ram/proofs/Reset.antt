-- What the memory reads as the board begins with it.
use Rattle.std.proofs.Common.{◌≡◌, ℕ, ◌+◌, ◌-◌, ◌<◌, ◌≤◌, List, length, get_or, ap, sym, ◌∙◌, arith, inl, inr, true, false, unwrap_or}
use Rattle.std.specs.Prelude.{◌⊎◌, nat_le, if◌then◌else◌, replicate}
use Rattle.std.specs.Ordering.{nat_cmp}
use Rattle.std.specs.FinMap as map
use Rattle.std.proofs.lemmas.Bool.{cases_lt}
use Rattle.std.proofs.lemmas.List.{length-replicate, get_or-replicate, get_or_past}
use Rattle.psx_base.specs.Memory.{Memory, no_bytes, byte, put_bytes}
use Rattle.psx_ram.specs.Parts.{of_parts, zeros, reset_memory}
use Rattle.psx_ram.proofs.Bytes.{byte-put_bytes, byte-put_bytes_apart}

pub length-zeros : (n : ℕ) → length (zeros n) ≡ n
unfolding zeros
length-zeros n = length-replicate n 0

get_or-copies : (n k x : ℕ) → (k < n) ⊎ (n ≤ k) → get_or (replicate n x) k x ≡ x
get_or-copies n k x (inl l) = get_or-replicate n k x x l
get_or-copies n k x (inr l) = get_or_past (replicate n x) k x (omega (arith, length-replicate n x))

pub get_or-zeros : (n k : ℕ) → get_or (zeros n) k 0 ≡ 0
unfolding zeros
get_or-zeros n k = get_or-copies n k 0 (cases_lt k n)

byte-no_bytes : (q : ℕ) → byte no_bytes q ≡ 0
unfolding byte
byte-no_bytes q = ap (λ o. unwrap_or o 0) (map.get-empty nat_cmp q)

-- zeros over zeros
byte-put_zeros : (m : Memory) (a n q : ℕ) → byte m q ≡ 0 → byte (put_bytes m a (zeros n)) q ≡ 0
byte-put_zeros m a n q e = go (cases_lt q a) (cases_lt q (a + length (zeros n)))
  where
    go : (q < a) ⊎ (a ≤ q) → (q < a + length (zeros n)) ⊎ (a + length (zeros n) ≤ q) → byte (put_bytes m a (zeros n)) q ≡ 0
    go (inl l) _ = byte-put_bytes_apart m a (zeros n) q (inl l) ∙ e
    go (inr _) (inr l) = byte-put_bytes_apart m a (zeros n) q (inr l) ∙ e
    go (inr l) (inl h) = byte-put_bytes m a (zeros n) q l h ∙ get_or-zeros n (q - a)

-- bytes over zeros
byte-put_over : (m : Memory) (a : ℕ) (xs : List ℕ) (q : ℕ) → byte m q ≡ 0
    → byte (put_bytes m a xs) q ≡ (if nat_le a q then get_or xs (q - a) 0 else 0)
byte-put_over m a xs q e = go (cases_lt q a) (cases_lt q (a + length xs))
  where
    go : (q < a) ⊎ (a ≤ q) → (q < a + length xs) ⊎ (a + length xs ≤ q) → byte (put_bytes m a xs) q ≡ (if nat_le a q then get_or xs (q - a) 0 else 0)
    go (inl l) _ =
        byte-put_bytes_apart m a xs q (inl l) ∙ e
        ∙ (λ i. if below i then get_or xs (q - a) 0 else 0)
      where
        below : false ≡ nat_le a q
        below = grind arith
    go (inr l) (inr h) =
        byte-put_bytes_apart m a xs q (inr h) ∙ e ∙ (λ i. past i)
        ∙ (λ i. if above i then get_or xs (q - a) 0 else 0)
      where
        above : true ≡ nat_le a q
        above = grind arith

        past : 0 ≡ get_or xs (q - a) 0
        past = sym (get_or_past xs (q - a) 0 (omega arith))
    go (inr l) (inl h) =
        byte-put_bytes m a xs q l h
        ∙ (λ i. if above i then get_or xs (q - a) 0 else 0)
      where
        above : true ≡ nat_le a q
        above = grind arith

pub byte-reset_memory : (rom : List ℕ) (q : ℕ) → byte (reset_memory rom) q ≡ (if nat_le 0x1FC00000 q then get_or rom (q - 0x1FC00000) 0 else 0)
unfolding reset_memory of_parts
byte-reset_memory rom q =
    byte-put_over (put_bytes (put_bytes no_bytes 0 (zeros 0x200000)) 0x1F800000 (zeros 0x400)) 0x1FC00000 rom q
    (byte-put_zeros (put_bytes no_bytes 0 (zeros 0x200000)) 0x1F800000 0x400 q (byte-put_zeros no_bytes 0 0x200000 q (byte-no_bytes q)))

pub reset_is : (m s r rom : List ℕ) → m ≡ zeros 0x200000 → s ≡ zeros 0x400 → r ≡ rom → of_parts m s r ≡ reset_memory rom
unfolding reset_memory
reset_is m s r rom a b e = λ i. of_parts (a i) (b i) (e i)
