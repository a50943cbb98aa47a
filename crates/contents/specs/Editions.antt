-- The codes that stand for editions, each said once.
use Rattle.std.specs.Prelude.{ℕ, cond, Some, None, Option, ◌==◌}
use Rattle.contents.specs.declared.edition.Edition.{Edition}
use Rattle.contents.specs.declared.edition.Edition.TheVariants.{Unsigned, Signed}

abbrev pub edition_code : Edition → ℕ
edition_code Unsigned = 1
edition_code Signed = 2

-- the edition that has a code
abbrev pub edition_coded : ℕ → Option Edition
edition_coded n =
    cond (n == edition_code Unsigned) (Some Unsigned)
    (cond (n == edition_code Signed) (Some Signed)
    None)
