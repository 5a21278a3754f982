-- The limits of the whole product: each figure stands here and nowhere else, but for those of one crate, which stand in
-- that crate's Limits, and the most work that is counted, in work_ledger. How many levels a list of coordinates has, and how
-- large each is, depends on a grid, so these two limits have no figure.
use Rattle.std.specs.Prelude.{ℕ, ◌^◌}

-- the most bytes of a script
abbrev pub max_script_bytes : ℕ
max_script_bytes = 16777216

-- the most bytes of one file
abbrev pub max_file_bytes : ℕ
max_file_bytes = 268435456

-- the most tables of a database
abbrev pub max_tables : ℕ
max_tables = 64

-- the most columns of a table
abbrev pub max_columns : ℕ
max_columns = 32

-- the least and the greatest length of a VARCHAR, in characters
abbrev pub min_length : ℕ
min_length = 1

abbrev pub max_length : ℕ
max_length = 65535

-- the most rows of a table
abbrev pub max_rows : ℕ
max_rows = 4194304

-- the most words of all tables together: the sum of rows times columns
abbrev pub max_words : ℕ
max_words = 33554432

-- the most different texts of a database
abbrev pub max_texts : ℕ
max_texts = 16777216

-- the most bytes of all different texts together
abbrev pub max_text_bytes : ℕ
max_text_bytes = 268435456

-- the most relations of a query
abbrev pub max_relations : ℕ
max_relations = 6

-- the most columns that a query names
abbrev pub max_projection : ℕ
max_projection = 256

-- the most parameters of a query: each has a sign in the script, which has at most so many bytes
abbrev pub max_parameters : ℕ
max_parameters = 16777216

-- the most axes of a grid
abbrev pub max_axes : ℕ
max_axes = 6

-- the most combinations of one row from each relation of a query
abbrev pub max_product : ℕ
max_product = 2 ^ 100

-- the least, the greatest number of levels of an axis
abbrev pub min_levels : ℕ
min_levels = 2

abbrev pub max_levels : ℕ
max_levels = 25

-- the most points of a grid
abbrev pub max_points : ℕ
max_points = 4096

-- the greatest threshold, and the one that holds where none is given, in percent
abbrev pub max_threshold : ℕ
max_threshold = 1000

abbrev pub default_threshold : ℕ
default_threshold = 20

-- the most plans that an audit tries
abbrev pub max_plans : ℕ
max_plans = 20000

-- the most contours of a bouquet
abbrev pub max_contours : ℕ
max_contours = 128

-- the most that a contour costs
abbrev pub max_contour_cost : ℕ
max_contour_cost = 2 ^ 114

-- every plan of a block costs less
abbrev pub cost_bound : ℕ
cost_bound = 2 ^ 113

-- the most bouquets that take turns side by side
abbrev pub max_jobs : ℕ
max_jobs = 64
