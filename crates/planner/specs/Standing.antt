-- An accepted book as the judge hands it over.
use Rattle.std.specs.Prelude.{◌≡◌, List, ℕ, replicate}
use Rattle.book.specs.Format.{book_of}
use Rattle.book.specs.Judged.{starts_of, judged_of, judged_book}
use Rattle.book.specs.declared.Judged.{Judged}

-- whole, and by the parts that are lent
pub record Accepted (s : List ℕ) (j : Judged) : Type 0 where
  pub judged : judged_book j ≡ judged_of s
  pub accepted : (book_of s).number ≡ 0

pub record Standing (s starts holders : List ℕ) (n : ℕ) : Type 0 where
  pub accepted : (book_of s).number ≡ 0
  pub starts_are : starts ≡ starts_of (book_of s)
  pub holders_are : holders ≡ (book_of s).holders
  pub jobs_are : n ≡ (book_of s).jobs

-- with the sheet as it is before its rows are written
pub record SheetBlank (s starts holders : List ℕ) (n : ℕ) (sheet : List ℕ) : Type 0 where
  pub standing : Standing s starts holders n
  pub blank : sheet ≡ replicate 288 0

pub record Unlaid (s : List ℕ) (j : Judged) (sheet : List ℕ) : Type 0 where
  pub accepted : Accepted s j
  pub blank : sheet ≡ replicate 288 0
