-- Addresses: bundles of 32 bytes, and the start and the permitted sizes of a region.
use Rattle.std.specs.Prelude.{◌≡◌, ℕ, ◌+◌, ◌*◌, ◌%◌, ◌≤◌}
use Rattle.nc_decode.specs.declared.bundles.TheConstants.{BUNDLE, START, MIN_BUNDLES, MAX_BUNDLES}

-- the address is a bundle start, a multiple of 32 (Yee et al. 2009, section 2.3)
abbrev pub IsBundleStart : ℕ → Type 0
IsBundleStart at = at % BUNDLE ≡ 0

-- the `len` bytes from `at` on are in one bundle
abbrev pub IsInOneBundle : ℕ → ℕ → Type 0
IsInOneBundle at len = at % BUNDLE + len ≤ BUNDLE

-- a region may have this number of bundles: from 2 (the last is the guard) to 2097152 (64 MiB)
abbrev pub IsRegionSize : ℕ → Type 0
IsRegionSize bundles = (MIN_BUNDLES ≤ bundles) × (bundles ≤ MAX_BUNDLES)

-- the first address after a region of this number of bundles; every region begins at 00010000
abbrev pub limit_after : ℕ → ℕ
limit_after bundles = START + BUNDLE * bundles

-- a region of at most `most` bundles may end at this address: a bundle start from `limit_after 2` to `limit_after most`
abbrev pub IsLimitUpTo : ℕ → ℕ → Type 0
IsLimitUpTo most limit = IsBundleStart limit × (limit_after MIN_BUNDLES ≤ limit) × (limit ≤ limit_after most)

-- a region may end at this address: a bundle start from `limit_after 2` to `limit_after 2097152`
abbrev pub IsLawfulLimit : ℕ → Type 0
IsLawfulLimit limit = IsLimitUpTo MAX_BUNDLES limit
