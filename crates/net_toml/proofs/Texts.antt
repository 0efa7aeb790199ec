-- The text of a network file.
use Rattle.std.proofs.Common.{◌≡◌, Bool, true, false, List, Option, Some, None, Err, if◌then◌else◌, refl, codes}
use Rattle.std.specs.Str.{is_utf8, IsUtf8}
use Rattle.std.proofs.lemmas.Str.{IsUtf8-from_is_utf8, is_utf8-from_IsUtf8}
use Rattle.toml.specs.Data.{Members}
use Rattle.toml.specs.Parse.{parse_document}
use Rattle.net_toml.specs.declared.refusal.NetRule.TheVariants.{Toml}
use Rattle.net_toml.specs.Walk.{plan_in, plan_of, read_table}

not_text : (b : Bool) (bytes : List _) → is_utf8 bytes ≡ b → (IsUtf8 bytes → ⊥) → b ≡ false
not_text true bytes e h = absurd (h (IsUtf8-from_is_utf8 bytes e))
not_text false bytes e h = refl

pub plan_in-no_text : (bytes : List _) → (IsUtf8 bytes → ⊥) → plan_in bytes ≡ Err (Toml, codes "text")
unfolding plan_in
plan_in-no_text bytes h = rw (not_text (is_utf8 bytes) bytes refl h) refl

not_table : (b : Bool) (found : Option Members) → found ≡ None → (if b then read_table found else Err (Toml, codes "text")) ≡ Err (Toml, codes "text")
not_table true None e = refl
not_table true (Some t) e = absurd cc
not_table false found e = refl

pub plan_in-no_table : (bytes : List _) → parse_document bytes ≡ None → plan_in bytes ≡ Err (Toml, codes "text")
unfolding plan_in
plan_in-no_table bytes e = not_table (is_utf8 bytes) (parse_document bytes) e

pub plan_in-table : (bytes : List _) (t : Members) → IsUtf8 bytes → parse_document bytes ≡ Some t → plan_in bytes ≡ plan_of t
unfolding plan_in
plan_in-table bytes t h e = rw (is_utf8-from_IsUtf8 bytes h, e) refl
