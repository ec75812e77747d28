-- Steps of the private functions: what they do to words, and what they find. No public contract cites these. Definitions only.
use Rattle.std.specs.Prelude.{ℕ, ◌+◌, ◌*◌, ◌-◌, ◌^◌, ◌≤◌, ◌<◌, ◌≡◌, Bool, ◌&&◌, List, ◌∷◌, get_or, set, leb, ltb}
use Rattle.numset.specs.Runs.{run, lo, hi, runs_to, Under, insert}

-- m' is m with its `count` words from `src` on also at `dst` on
pub record Shifted (m m' : List ℕ) (src dst count : ℕ) : Type 0 where
  pub moved : (d : ℕ) → d < count → get_or m' (dst + d) 0 ≡ get_or m (src + d) 0
  pub below : (k : ℕ) → k < dst → get_or m' k 0 ≡ get_or m k 0
  pub above : (k : ℕ) → dst + count ≤ k → get_or m' k 0 ≡ get_or m k 0

-- m' is m with 0 at from .. to
pub record Cleared (m m' : List ℕ) (from to : ℕ) : Type 0 where
  pub zeros : (k : ℕ) → from ≤ k → k < to → get_or m' k 0 ≡ 0
  pub below : (k : ℕ) → k < from → get_or m' k 0 ≡ get_or m k 0
  pub above : (k : ℕ) → to ≤ k → get_or m' k 0 ≡ get_or m k 0

-- m' is m with its runs s .. e, of n, replaced by the run l ..= u
pub record Replaced (m m' : List ℕ) (s e n l u : ℕ) : Type 0 where
  pub count : get_or m' 0 0 ≡ s + 1 + (n - e)
  pub below : (k : ℕ) → 0 < k → k < 2 * s + 1 → get_or m' k 0 ≡ get_or m k 0
  pub lower : lo m' s ≡ l
  pub upper : hi m' s ≡ u
  pub moved : (d : ℕ) → d < 2 * (n - e) → get_or m' (2 * s + 3 + d) 0 ≡ get_or m (2 * e + 1 + d) 0
  pub zeros : (k : ℕ) → 2 * (s + 1 + (n - e)) < k → get_or m' k 0 ≡ 0

-- the first e runs are those that begin at or before u + 1
pub record Ended (m : List ℕ) (u e : ℕ) : Type 0 where
  pub few : e ≤ get_or m 0 0
  pub apart : Under (2 ^ 64 + 1) (runs_to m e)
  pub reach : 0 < e → lo m (e - 1) ≤ u + 1
  pub over : (j : ℕ) → e ≤ j → j < get_or m 0 0 → u + 1 < lo m j

-- of the first e runs those from s on are joined by l ..= u, which makes them low ..= up
pub record Met (m : List ℕ) (l u s e low up : ℕ) : Type 0 where
  pub few : s ≤ e
  pub joined : insert l u (runs_to m e) ≡ run low up ∷ runs_to m s

-- the runs s .. e are those that l ..= u joins, which makes them low ..= up
pub record Spanned (m : List ℕ) (l u s e low up : ℕ) : Type 0 where
  pub ended : Ended m u e
  pub met : Met m l u s e low up

-- there is an oldest run, and it ends before t
unfoldable pub oldest_lapsed : List ℕ → ℕ → Bool
oldest_lapsed m t = ltb 0 (get_or m 0 0) && ltb (hi m 0) t

-- the k oldest runs are those that end before t
pub record Lapsed (m : List ℕ) (t k : ℕ) : Type 0 where
  pub few : k ≤ get_or m 0 0
  pub before : (j : ℕ) → j < k → hi m j < t
  pub after : (j : ℕ) → k ≤ j → j < get_or m 0 0 → t ≤ hi m j

-- m' is m without its k oldest runs, of n
pub record Dropped (m m' : List ℕ) (k n : ℕ) : Type 0 where
  pub count : get_or m' 0 0 ≡ n - k
  pub moved : (d : ℕ) → d < 2 * (n - k) → get_or m' (1 + d) 0 ≡ get_or m (2 * k + 1 + d) 0
  pub zeros : (i : ℕ) → 2 * (n - k) < i → get_or m' i 0 ≡ 0

-- there is a newest run, it begins at or before l, and l is at most next to its end
unfoldable pub takes_in : List ℕ → ℕ → Bool
takes_in m l = ltb 0 (get_or m 0 0) && (leb (lo m (get_or m 0 0 - 1)) l && leb (l - hi m (get_or m 0 0 - 1)) 1)

-- m with the run l ..= u as run s, and n as the number of runs
abbrev pub with_run : List ℕ → ℕ → ℕ → ℕ → ℕ → List ℕ
with_run m s l u n = set (set (set m (2 * s + 1) l) (2 * s + 2) u) 0 n
