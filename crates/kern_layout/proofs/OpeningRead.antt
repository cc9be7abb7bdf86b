-- The opening words read as the state at a program's begin.
use Rattle.std.proofs.Common.{◌≡◌, ℕ, zero, suc, ◌+◌, ◌-◌, ◌*◌, ◌/◌, ◌%◌, ◌<◌, ◌≤◌, cond, [], ◌∷◌, length, refl, sym, ◌∙◌, subst, arith}
use Rattle.std.specs.Prelude.{◌&&◌, ◌||◌, nat_eq, nat_lt, Some, None, slice_index_or, replicate}
use Rattle.std.proofs.lemmas.List.{get_or-replicate, length-replicate}
use Rattle.psx_base.specs.declared.stop.Sizes.{Sizes}
use Rattle.psx_base.specs.Memory.{Memory}
use Rattle.psx_base.specs.KernelState.{Free, Used}
use Rattle.kern_layout.specs.Fields.{Block}
use Rattle.kern_layout.specs.Contexts.{thread_fields}
use Rattle.kern_layout.specs.Reads.{Reads, no_event, event_fields, file_fields, ChainAt}
use Rattle.kern_layout.specs.Stores.{put}
use Rattle.kern_layout.specs.Start.{start, opening, SizesFit}
use Rattle.kern_layout.specs.Opening.{opening_at, Opens, OpensAsStart}
use Rattle.kern_layout.proofs.Blocks.{put_here, put_other}
use Rattle.kern_layout.proofs.HeapMade.{heap_word, heap_made}

free_status : (j a : ℕ) → a ≡ 0xB000 + 0xC0 * suc j → a < 0xBC00 → opening_at a ≡ 0x1000
free_status j a is up = grind arith

no_word : (a : ℕ) → 0xBC00 ≤ a → a < 0xD000 → opening_at a ≡ 0
no_word a lo up = grind arith

no_file : (a : ℕ) → 0xE808 ≤ a → a < 0xEA44 → opening_at a ≡ 0
no_file a lo up = grind arith

-- over the quotient and the rest, apart from the table
heap_rest : (o k r : ℕ) → r ≡ o % 12 → k ≡ o / 12 → r % 4 ≡ 0 → o < 0x1800 → cond (nat_eq (o % 12) 0 && nat_lt (o + 12) 0x1800) (0xD000 + (o + 12)) 0 ≡ cond (nat_lt r 4) (cond (nat_eq (suc k) 0 || nat_eq (suc k) 512) 0 (0xD000 + 12 * suc k)) (cond (nat_lt r 8) 0 0)
heap_rest o k r a b al up = grind arith

in_heap : (a : ℕ) → 0xD000 ≤ a → a < 0xE800 → opening_at a ≡ cond (nat_eq ((a - 0xD000) % 12) 0 && nat_lt (a - 0xD000 + 12) 0x1800) (0xD000 + (a - 0xD000 + 12)) 0
in_heap a lo up = grind arith

heap_words : (a : ℕ) → a % 4 ≡ 0 → 0xD000 ≤ a → a < 0xE800 → opening_at a ≡ heap_word [] a
heap_words a al lo up = in_heap a lo up ∙ heap_rest (a - 0xD000) ((a - 0xD000) / 12) ((a - 0xD000) % 12) refl refl (omega arith) (omega arith)

-- with the two sizes stored
module _ (w : ℕ → ℕ) (sizes : Sizes) (fit : SizesFit sizes) (opens : Opens w) where
  abbrev stored : ℕ → ℕ
  stored = put (put w 0xEA0C sizes.threads) 0xEA10 sizes.events

  at : (a v : ℕ) → a % 4 ≡ 0 → 0xB000 ≤ a → a < 0x10000 → (a ≡ 0xEA0C → ⊥) → (a ≡ 0xEA10 → ⊥) → opening_at a ≡ v → stored a ≡ v
  at a v al lo up x y is = put_other (put w 0xEA0C sizes.threads) 0xEA10 sizes.events a y ∙ put_other w 0xEA0C sizes.threads a x ∙ opens a al lo up ∙ is

  low : (a v : ℕ) → a % 4 ≡ 0 → 0xB000 ≤ a → a < 0xEA0C → opening_at a ≡ v → stored a ≡ v
  low a v al lo up is = at a v al lo (omega arith) (λ q. omega arith) (λ q. omega arith) is

  high : (a v : ℕ) → a % 4 ≡ 0 → 0xEA10 < a → a < 0x10000 → opening_at a ≡ v → stored a ≡ v
  high a v al lo up is = at a v al (omega arith) up (λ q. omega arith) (λ q. omega arith) is

  threads_read : (pc gp stack i : ℕ) → i < suc (length (replicate (sizes.threads - 1) Free)) → Block stored (0xB000 + 0xC0 * i) (thread_fields 0 i (slice_index_or (Used (opening pc gp stack) ∷ replicate (sizes.threads - 1) Free) i Free))
  threads_read pc gp stack zero lt = (low 0xB000 0x4000 refl (omega arith) (omega arith) refl, tt)
  threads_read pc gp stack (suc j) lt =
      let few : suc j < sizes.threads = omega (arith, lt, length-replicate (sizes.threads - 1) Free, fit.threads_least) in
      let a : 0xB000 + 0xC0 * suc j + 0 ≡ 0xB000 + 0xC0 * suc j = omega arith in
      subst (λ t. Block stored (0xB000 + 0xC0 * suc j) (thread_fields 0 (suc j) t)) (sym (get_or-replicate (sizes.threads - 1) j Free Free (omega (arith, few))))
      (low (0xB000 + 0xC0 * suc j + 0) 0x1000 (omega arith) (omega arith) (omega (arith, few, fit.threads_most)) (free_status j (0xB000 + 0xC0 * suc j + 0) a (omega (arith, few, fit.threads_most))), tt)

  none : (i o : ℕ) → i < 64 → o < 0x1C → o % 4 ≡ 0 → stored (0xBC00 + 0x1C * i + o) ≡ 0
  none i o lt up al = low (0xBC00 + 0x1C * i + o) 0 (omega (arith, al)) (omega arith) (omega arith) (no_word (0xBC00 + 0x1C * i + o) (omega arith) (omega arith))

  events_read : (i : ℕ) → i < length (replicate sizes.events no_event) → Block stored (0xBC00 + 0x1C * i) (event_fields i (slice_index_or (replicate sizes.events no_event) i no_event))
  events_read i lt =
      let few : i < sizes.events = omega (arith, lt, length-replicate sizes.events no_event) in
      let all : i < 64 = omega (arith, few, fit.events_most) in
      subst (λ e. Block stored (0xBC00 + 0x1C * i) (event_fields i e)) (sym (get_or-replicate sizes.events i no_event no_event few))
      (none i 0 all (omega arith) refl, (none i 4 all (omega arith) refl, (none i 8 all (omega arith) refl, (none i 0xC all (omega arith) refl, (none i 0x10 all (omega arith) refl, tt)))))

  chains_read : (p : ℕ) → p < 4 → ChainAt stored (0xCF00 + 0x40 * p) (slice_index_or ([] ∷ [] ∷ [] ∷ [] ∷ []) p [])
  chains_read zero lt = record { count = low 0xCF00 0 refl (omega arith) (omega arith) refl; elements = tt }
  chains_read (suc zero) lt = record { count = low 0xCF40 0 refl (omega arith) (omega arith) refl; elements = tt }
  chains_read (suc (suc zero)) lt = record { count = low 0xCF80 0 refl (omega arith) (omega arith) refl; elements = tt }
  chains_read (suc (suc (suc zero))) lt = record { count = low 0xCFC0 0 refl (omega arith) (omega arith) refl; elements = tt }
  chains_read (suc (suc (suc (suc p)))) lt = absurd (omega arith)

  files_read : (i : ℕ) → i < 16 → Block stored (0xE800 + 4 * i) (file_fields i (slice_index_or (Some 1 ∷ Some 2 ∷ replicate 14 None) i None))
  files_read zero lt = (low 0xE800 1 refl (omega arith) (omega arith) refl, tt)
  files_read (suc zero) lt = (low 0xE804 2 refl (omega arith) (omega arith) refl, tt)
  files_read (suc (suc j)) lt =
      subst (λ f. Block stored (0xE800 + 4 * suc (suc j)) (file_fields (suc (suc j)) f)) (sym (get_or-replicate 14 j None None (omega arith)))
      (low (0xE800 + 4 * suc (suc j) + 0) 0 (omega arith) (omega arith) (omega arith) (no_file (0xE800 + 4 * suc (suc j) + 0) (omega arith) (omega arith)), tt)

  pub start_read : (b : ℕ → ℕ) (pc gp stack : ℕ) (m : Memory) → Reads (start pc gp stack m sizes) stored b
  start_read b pc gp stack m = record {
    threads = threads_read pc gp stack;
    events = events_read;
    frames = λ n lt. absurd (omega arith);
    chains = chains_read;
    heap = heap_made stored [] (omega arith) (λ a al lo up. low a (heap_word [] a) al (omega arith) (omega arith) (heap_words a al lo up)) record { base = 0; blocks = [] } refl (high 0xEA40 0 refl (omega arith) (omega arith) refl) (high 0xEA44 0xD000 refl (omega arith) (omega arith) refl);
    files = files_read;
    line = λ k lt. absurd (omega arith);
    variables = (
      low 0xEA00 0 refl (omega arith) (omega arith) refl,
      (
        low 0xEA04 0 refl (omega arith) (omega arith) refl,
        (
          low 0xEA08 0 refl (omega arith) (omega arith) refl,
          (
            put_other (put w 0xEA0C sizes.threads) 0xEA10 sizes.events 0xEA0C (λ q. omega arith) ∙ put_here w 0xEA0C sizes.threads ∙ omega (arith, length-replicate (sizes.threads - 1) Free, fit.threads_least),
            (
              put_here (put w 0xEA0C sizes.threads) 0xEA10 sizes.events ∙ sym (length-replicate sizes.events no_event),
              (high 0xEA14 0 refl (omega arith) (omega arith) refl, (high 0xEA18 0 refl (omega arith) (omega arith) refl, (high 0xEA1C 0 refl (omega arith) (omega arith) refl, (high 0xEA20 0 refl (omega arith) (omega arith) refl, (high 0xEA24 0 refl (omega arith) (omega arith) refl, tt))))),
            ),
          ),
        ),
      ),
    );
  }

pub opens_as_start : OpensAsStart
opens_as_start w b pc gp stack m sizes fit opens = start_read w sizes fit opens b pc gp stack m
