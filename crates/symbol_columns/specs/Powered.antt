-- What the columns of symbols are made from.
--
--   Powered k s ps ws m   the list ps has the powers of the circuit k's register, and ws its spread words, of which none is bad; m is its
--                         width; s slices are few enough for the powers
--   NumbersIn ns e        the list ns has the symbol numbers of the entries of e, and nothing else
--   SymbolsFrom k s ps ws m ns e   the columns of the symbols of e can be made from these lists: they are Powered and NumbersIn, and the
--                         cells of e lie in s slices and k's chains
--   FlagsIn ks e          the list ks has the flag of each entry of e
use Rattle.std.specs.Prelude.{◌≡◌, false, List, ℕ, ◌≤◌, ◌<◌, length, get_or}
use Rattle.ties.specs.Ties.{Ties}
use Rattle.ties.specs.Symbols.{flag, Within}
use Rattle.chains.specs.Driven.{bad_spread}
use Rattle.register.specs.Circuit.{Circuit}
use Rattle.signatures.specs.Later.{later}

pub record Powered (k : Circuit) (s : ℕ) (ps ws : List ℕ) (m : ℕ) : Type 0 where
  pub long : length ps ≡ 576
  pub powers : (i : ℕ) → i < 576 → get_or ps i 0 ≡ later k i 1
  pub spread : ws ≡ k.spread
  pub good : bad_spread k.width k.spread ≡ false
  pub width : m ≡ k.width
  pub narrow : k.width ≤ 64
  pub slices : s ≤ 512

pub record NumbersIn (ns : List ℕ) (e : Ties) : Type 0 where
  pub long : length ns ≡ e.count
  pub numbers : (i : ℕ) → i < e.count → get_or ns i 0 ≡ e.symbol i

pub record SymbolsFrom (k : Circuit) (s : ℕ) (ps ws : List ℕ) (m : ℕ) (ns : List ℕ) (e : Ties) : Type 0 where
  pub powered : Powered k s ps ws m
  pub within : Within s (length ws) e
  pub numbered : NumbersIn ns e

abbrev pub FlagsIn : List ℕ → Ties → Type 0
FlagsIn ks e = (i : ℕ) → i < e.count → get_or ks i 0 ≡ flag e i
