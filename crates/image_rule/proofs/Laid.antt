-- What it is to be laid out, number by number.
use mathlib.Core.Path.{◌≡◌}
use mathlib.Core.Bool.{true}
use mathlib.Core.List.{List}
use Prim.Native.Nat.{ℕ, ◌*◌, ◌≤◌}
use native.Mathlib.Omega.{arith}
use lib.ListN.{length}
use lib.Dec.{leb}
use borrow.Author.Tests.{leb-true}
use Rattle.bitvec.specs.Calls.{bytes_for}
use Rattle.audit.proofs.Tests.{both, same, itself}
use Rattle.little.specs.Numbers.{number}
use Rattle.image_rule.specs.Layout.{links_at_lem, colours_at_lem, image_length_lem, Bodies, count_in_lem, spare_clear, laid_out_lem}

pub record Laid (I : List ℕ) (n : ℕ) : Type 0 where
  pub long : 44 ≤ length I
  pub whole : length I ≡ image_length_lem n
  pub spare : spare_clear I n ≡ true
  pub kind_1 : number 4 I 8 ≡ 1
  pub offset_1 : number 4 I 12 ≡ 44
  pub size_1 : number 4 I 16 ≡ n * 24
  pub kind_2 : number 4 I 20 ≡ 2
  pub offset_2 : number 4 I 24 ≡ links_at_lem n
  pub size_2 : number 4 I 28 ≡ n * 12
  pub kind_3 : number 4 I 32 ≡ 3
  pub offset_3 : number 4 I 36 ≡ colours_at_lem n
  pub size_3 : number 4 I 40 ≡ bytes_for n

pub laid : (I : List ℕ) → laid_out_lem I ≡ true → Laid I (count_in_lem I)
unfolding laid_out_lem
laid I e =
    let (((a, ((r, s), t)), w), z) =
    (both (both (both (itself (leb 44 (length I)))
    (both (both (both (both (same (number 4 I 8) 1) (same (number 4 I 12) 44)) (same (number 4 I 16) (count_in_lem I * 24)))
    (both (both (same (number 4 I 20) 2) (same (number 4 I 24) (links_at_lem (count_in_lem I)))) (same (number 4 I 28) (count_in_lem I * 12))))
    (both (both (same (number 4 I 32) 3) (same (number 4 I 36) (colours_at_lem (count_in_lem I)))) (same (number 4 I 40) (bytes_for (count_in_lem I))))))
    (same (length I) (image_length_lem (count_in_lem I)))) (itself (spare_clear I (count_in_lem I)))
    ).holds e in
    record {
      long = leb-true 44 (length I) a;
      whole = w;
      spare = z;
      kind_1 = r.0.0;
      offset_1 = r.0.1;
      size_1 = r.1;
      kind_2 = s.0.0;
      offset_2 = s.0.1;
      size_2 = s.1;
      kind_3 = t.0.0;
      offset_3 = t.0.1;
      size_3 = t.1;
    }

-- so it has the bodies of its slots, if it does not have too many
pub laid_bodies : (I : List ℕ) → laid_out_lem I ≡ true → count_in_lem I ≤ 65535 → Bodies I (count_in_lem I)
unfolding bytes_for
laid_bodies I e h = (h, omega (arith, (laid I e).whole))
