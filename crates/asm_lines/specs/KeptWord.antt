-- The bytes that a word keeps are those of its list, filled with zeros.
use Rattle.std.proofs.Common.{◌≡◌, ℕ, ◌≤◌, IsTrue, List, length, take, sym, ◌∙◌, ap, arith, length-append, length-take}
use Rattle.std.specs.List.{list_all}
use Rattle.std.proofs.Math.ListN.{length-replicate}
use Rattle.tie_desc.specs.Names.{is_word_byte, padded}
use Rattle.asm_lines.specs.declared.word.Word.TheInside.{Inside}

-- a word that keeps its filled bytes is as long as it says
full : (bytes : List ℕ) (n : ℕ) → n ≤ 32 → bytes ≡ padded (take n bytes) → length (take n bytes) ≡ n
full bytes n h e =
    omega (arith, ap length e, length-append {A = ℕ}, length-replicate {A = ℕ}, length-take {A = ℕ})

-- what a word keeps
abbrev pub inside : List ℕ → ℕ → Inside
inside bytes n = record { bytes = bytes; len = n }

-- the list gives back what was kept
pub kept_again : (a : Inside) → (a.len ≤ 32) × (a.bytes ≡ padded (take a.len a.bytes)) × IsTrue (list_all is_word_byte (take a.len a.bytes))
    → inside (padded (take a.len a.bytes)) (length (take a.len a.bytes)) ≡ a
kept_again a h =
    ap (λ bytes. inside bytes (length (take a.len a.bytes))) (sym h.1) ∙ ap (λ n. inside a.bytes n) (full a.bytes a.len h.0 h.1)
