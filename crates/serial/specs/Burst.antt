-- What a burst leaves: two stores that differ in nothing but what one request writes.
use Rattle.serial.specs.Core.{Alike, Sys, Store}

module _ (S : Sys) where
  open S use {Req, Writes}

  -- two stores that differ in nothing but what r writes
  abbrev pub Elsewhere : Req → Store S → Store S → Type 0
  Elsewhere r s t = Alike (λ X. ¬ Writes r X) s t
