-- What energy costs. Assumes nothing.
use Rattle.std.specs.Prelude.{◌≡◌, ℕ, ◌+◌, ◌*◌, ◌/◌, ◌<◌, ◌≤◌, ◌⊎◌, Result, MatchResult}
use Rattle.event.specs.Lawful.{largest_register}
use Rattle.refusal.specs.declared.Refusal.{Refusal}
use Rattle.refusal.specs.declared.Refusal.TheVariants.{OutOfRange}

-- in thousandths of a currency unit for each kWh
abbrev pub largest_price : ℕ
largest_price = 100000

-- a Wh at price p is p / 10,000 cents; to the nearest cent, a half up
abbrev pub cents_for : (watt-hours price : ℕ) → ℕ
cents_for watt-hours price = (watt-hours * price + 5000) / 10000

pub record Priced (watt-hours price : ℕ) (cents : ℕ) : Type 0 where
  pub energy : watt-hours ≤ largest_register
  pub tariff : price ≤ largest_price
  pub charge : cents ≡ cents_for watt-hours price

pub record Unpriced (watt-hours price : ℕ) (refusal : Refusal) : Type 0 where
  pub range : (largest_register < watt-hours) ⊎ (largest_price < price)
  pub because : refusal ≡ OutOfRange

-- the cents, or the refusal where the energy or the price is out of range
abbrev pub Charges : (watt-hours price : ℕ) → Result ℕ Refusal → Type 0
Charges watt-hours price r = MatchResult r (Priced watt-hours price) (Unpriced watt-hours price)
